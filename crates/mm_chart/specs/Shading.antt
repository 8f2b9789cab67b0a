-- Stretches with what a chart asks of their stores.
use Rattle.std.specs.Prelude.{ℕ, Bool, false, ◌==◌, ◌&&◌, nat_le, nat_lt}
use Rattle.mm_problem.specs.Dumping.{Dumping}
use Rattle.mm_plan.specs.declared.stretch.Stretch.{Stretch}
use Rattle.mm_cut.specs.Stretches.{store_of, channel_of, inner_end}
use Rattle.mm_chart.specs.declared.series.Series.{Series}
use Rattle.mm_chart.specs.declared.series.Series.TheVariants.{ChannelCounts, Inner, Last}
use Rattle.mm_chart.specs.declared.shades.Shade.{Shade}

-- a stretch with the place and the channel of its store, and the step after its inner steps
abbrev pub shade_of : Dumping → Stretch → Shade
shade_of q d = record {
  store = store_of q d;
  channel = channel_of q d;
  first = d.first;
  last = d.last;
  end = inner_end q.come d;
}

-- whether a series asks for a stretch in a step
abbrev pub is_asked : Series → ℕ → Shade → Bool
is_asked (Inner s) t h = (h.store == s) && (nat_le h.first t && nat_lt t h.end)
is_asked (Last s) t h = (h.store == s) && (h.last == t)
is_asked (ChannelCounts c) t h = (nat_le h.first t && nat_lt t h.end) && (h.channel == c)
is_asked _ t h = false
