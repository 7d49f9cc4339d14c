-- What the rounding up of durations asks, and what it gives of each.
use Rattle.std.specs.Prelude.{ℕ, ◌^◌}
use Rattle.numbers.specs.Laws.Upto.{Upto}
use Rattle.plan_figures.specs.declared.RouteFigures.{RouteFigures}
use Rattle.tariff.specs.Units.{begun_of}

-- (a clause: the figures are added up in the walk, which knows no bound)
abbrev pub Timed : RouteFigures → Type 0
Timed f = Upto (2 ^ 41) f.duration

-- "in whole units, rounded up"
abbrev pub rounded_up : RouteFigures → ℕ
rounded_up f = begun_of 1 f.duration
