use Rattle.mm_problem.proofs.ForecastTexts.{forecast_said, forecast_read}
use Rattle.mm_problem.proofs.laws.forecasts.Goals as goal

pub returns : goal.returns
returns c = λ setup is octets q. (forecast_said setup is octets q, forecast_read setup is octets q)
