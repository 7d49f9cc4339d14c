-- What is known of the first stops of a round is known of another round with the same ones.
use Rattle.std.specs.Prelude.{◌≡◌, ℕ, ◌≤◌, List, length, take}
use Rattle.std.proofs.Common.{arith}
use Rattle.evaluation.specs.declared.limits.RouteLimits.{RouteLimits}
use Rattle.evaluation_prefix.specs.declared.Prefix.{Prefix}
use Rattle.evaluation_prefix.specs.Prefix.{WalkedBefore}

pub same_front : (s : List ℕ) (depot : ℕ) (limits : RouteLimits) (round other : List ℕ) (a : Prefix) → WalkedBefore s depot limits round a → length round ≤ length other → take a.stops other ≡ take a.stops round → WalkedBefore s depot limits other a
same_front s depot limits round other a g h e = record {
  from = g.from;
  place = omega (arith, g.place);
  unrested = g.unrested;
  stands = rw e g.stands;
}
