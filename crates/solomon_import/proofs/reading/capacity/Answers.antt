-- `solomon_import::reading::capacity` meets its contract. Assumes nothing.
use mathlib.Core.Path.{sym, ap, ◌∙◌, subst}
use mir.Syntax.{w32}
use mir.ValLaws.{to_z-of_z}
use Rattle.solomon_import.specs.Laws.Ranged.{up_to_size}
use mathlib.Core.List.{List}
use Prim.Native.Nat.{ℕ, ◌≤◌}
use lib.IntN.{nat_abs}
use Rattle.solomon_text.specs.Numbers.{number_at}
use Rattle.solomon_import.specs.Instance.{capacity_of}
use Rattle.solomon_import.proofs.reading.capacity.Goals as goal

pub value-requires : goal.value-requires
unfolding capacity_of
value-requires c = subst (λ (l : List ℕ). nat_abs (number_at l 1) ≤ 0x7fff_ffff) (sym c.vehicle_line.ensures) (up_to_size 0x7fff_ffff (capacity_of c.args.text.now) c.requires)

pub returns : goal.returns
unfolding capacity_of
returns c = to_z-of_z w32 c.value.result (record { sfits = c.value.type_inv }) ∙ c.value.ensures ∙ ap (λ (l : List ℕ). number_at l 1) c.vehicle_line.ensures
