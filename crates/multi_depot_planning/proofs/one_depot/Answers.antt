-- `multi_depot_planning::one_depot` meets its contract. Assumes nothing.
use Rattle.constructive.specs.Laws.TableContents.{is_empty}
use Rattle.multi_depot_planning.proofs.Alone.{lent_zeros, next_zeros, one_held}
use Rattle.multi_depot_planning.proofs.one_depot.Goals as goal

pub lay_depot-requires : goal.lay_depot-requires
lay_depot-requires c = let z = c.fill.ensures.after (λ y e. e) in
    record { planning_tables = lent_zeros c.requires z; next = rw (is_empty c.default-filled.ensures) (next_zeros c.requires z) }

pub returns-clause-holds_outcome : goal.returns-clause-holds_outcome
returns-clause-holds_outcome c = one_held c.requires (c.fill.ensures.after (λ y e. e)) (rw (is_empty c.default-filled.ensures) at c.lay_depot.ensures.depot_laid)
