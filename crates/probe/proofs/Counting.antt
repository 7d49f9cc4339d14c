-- Rounds counted one by one. Assumes nothing.
use mathlib.Core.Path.{◌≡◌, refl, ap, ◌∙◌}
use Prim.Native.Nat.{ℕ, zero, suc, ◌+◌, ◌/◌, ◌≤◌, ◌<◌}
use native.Mathlib.Nat.{add-zero, zero-add, add_assoc, add-div_left, div-eq_of_lt}
use native.Mathlib.Numerals.{add-one}
use native.Mathlib.Omega.{arith}
use mathlib.Core.Bool.{Bool, true, false}
use mathlib.Core.List.{List, ◌++◌}
use Rattle.std.specs.Int.{from_bool}
use lib.ListN.{length, length-append}
use lib.Seq.{take_at, drop-append-add, get_or-append-add}
use Rattle.evaluation.specs.declared.limits.RouteLimits.{RouteLimits}
use Rattle.evaluation.specs.Feasible.{route_feasible}
use Rattle.probe.specs.Promises.{RowsAsked}
use Rattle.probe.specs.Rounds.{one_of, passed_from, passed_of}

pub from_one : (b : Bool) → from_bool b ≡ one_of b
from_one true = refl
from_one false = refl

pub at_most_one : (b : Bool) → one_of b ≤ 1
at_most_one true = omega arith
at_most_one false = omega arith

module _ (s : List ℕ) (depot : ℕ) (limits : RouteLimits) (len : ℕ) where
  -- the rounds behind some rows do not turn on these
  behind : (xs rest : List ℕ) (n first : ℕ) → passed_from s depot limits (xs ++ rest) len n (length xs + first) ≡ passed_from s depot limits rest len n first
  unfolding passed_from
  behind xs rest zero first = refl
  behind xs rest (suc n) first = rw (drop-append-add xs rest first, add_assoc, behind xs rest n (first + len)) refl

  round_more : 0 < len → (round rest : List ℕ) → length round ≡ len → passed_of s depot limits (round ++ rest) len ≡ one_of (route_feasible s depot limits round) + passed_of s depot limits rest len
  unfolding passed_of passed_from
  round_more some round rest l =
      let e : length (round ++ rest) / len ≡ suc (length rest / len) = rw (length-append, l, add-div_left (length rest) some, add-one) refl in
      let first : len ≡ length round + 0 = rw (add-zero, l) refl in
      rw (e, zero-add, take_at round rest len l)
      (ap (λ (m : ℕ). one_of (route_feasible s depot limits round) + passed_from s depot limits (round ++ rest) len (length rest / len) m) first
      ∙ rw (behind round rest (length rest / len) 0) refl)

  none_left : (rest : List ℕ) → length rest < len → passed_of s depot limits rest len ≡ 0
  unfolding passed_of passed_from
  none_left rest h = rw (div-eq_of_lt h) refl

  -- the count with `rest` left of the rows
  pub record Counted (stops : List ℕ) (size : ℕ) (rest : List ℕ) (count : ℕ) : Type 0 where
    pub cut : size ≡ len
    pub rows : RowsAsked s depot rest
    pub few : count + length rest ≤ length stops
    pub left : count + passed_of s depot limits rest len ≡ passed_of s depot limits stops len

  module _ (stops : List ℕ) (size : ℕ) (rest : List ℕ) (count : ℕ) (c : Counted stops size rest count) where
    module _ (round after : List ℕ) (e : rest ≡ round ++ after) (l : length round ≡ size) where
      pub count_on : 0 < len → (left : ℕ) → left ≡ size → (b : Bool) → b ≡ route_feasible s depot limits round → Counted stops left after (count + one_of b)
      count_on some left n b f =
          let long : length rest ≡ length round + length after = rw (e, length-append) refl in record {
            cut = n ∙ c.cut;
            rows = record {
              sheet = c.rows.sheet;
              home = c.rows.home;
              row = λ k h. rw (e, get_or-append-add round after k 0) at (c.rows.row (length round + k) (omega (arith, long)));
            };
            few = omega (arith, c.few, long, at_most_one b, c.cut);
            left = rw (f, add_assoc, ← round_more some round after (l ∙ c.cut), ← e) c.left;
          }

    pub counted : length rest < size → count ≡ passed_of s depot limits stops len
    counted h = rw (none_left rest (omega (arith, c.cut)), add-zero) at c.left
