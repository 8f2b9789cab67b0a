use Rattle.mm_rest.proofs.ForecastReads.{text_read}
use Rattle.mm_rest.proofs.forecast.print_forecast.Goals as goal

pub returns : goal.returns
returns c = text_read c.args.problem.now c.forecast_text.result c.forecast_text.ensures.text
    c.forecast_text.ensures.fields c.forecast_text.ensures.within
