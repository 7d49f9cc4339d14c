-- The loops that gather the numbers of a run which a test keeps: one more is kept, one is passed, or the run ends. Assumes nothing.
use mathlib.Core.Path.{◌≡◌, sym, ap, ◌∙◌}
use Prim.Native.Nat.{ℕ, ◌+◌, ◌-◌, ◌≤◌, ◌<◌}
use native.Mathlib.Nat.{add-zero}
use native.Mathlib.Omega.{arith}
use mathlib.Core.Bool.{Bool, true, false}
use mathlib.Core.List.{List, [], ◌∷◌, ◌++◌, append-nil}
use lib.ListN.{length, set, length-append, take-append-drop}
use Rattle.lists.specs.Filter.{keep_if, filtered}
use Rattle.lists.specs.Laws.Filter.{those_last, those_prefix}
use Rattle.wire.specs.Bytes.{write}
use Rattle.wire.specs.Laws.Bytes.{length_write, write_write, write_byte}

-- of the n numbers from i on those before k are gathered in the table, which began as `table₀`, from `from` to `end`
pub record Gathering (p : ℕ → Bool) (n i : ℕ) (table₀ : List ℕ) (from : ℕ) (table : List ℕ) (end k : ℕ) : Type 0 where
  pub room : from + length (filtered p n i) ≤ length table₀
  pub least : i ≤ k
  pub most : k ≤ i + n
  pub same : table ≡ write table₀ from (filtered p (k - i) i)
  pub last : end ≡ from + length (filtered p (k - i) i)

pub begins : (p : ℕ → Bool) (n i : ℕ) (table : List ℕ) (from : ℕ) → from + length (filtered p n i) ≤ length table → Gathering p n i table from table from i
unfolding filtered write
begins p n i table from h =
    let e : i - i ≡ 0 = omega arith in
    record { room = h; least = omega arith; most = omega arith; same = rw (e, add-zero) (sym (take-append-drop from table)); last = rw e (omega arith) }

module _ (p : ℕ → Bool) (n i : ℕ) (table₀ : List ℕ) (from : ℕ) (table : List ℕ) (end k : ℕ) (g : Gathering p n i table₀ from table end k) where
  pub length_gathered : length table ≡ length table₀
  length_gathered =
      let l = those_prefix p (k - i) n i (omega (arith, g.most, g.least)) in
      ap length g.same ∙ length_write table₀ from (filtered p (k - i) i) (omega (arith, g.room))

  module _ (h : k < i + n) where
    next : k + 1 - i ≡ k - i + 1
    next = omega (arith, g.least)

    here : i + (k - i) ≡ k
    here = omega (arith, g.least)

    more : filtered p (k + 1 - i) i ≡ filtered p (k - i) i ++ keep_if (p k) k []
    more = ap (λ (m : ℕ). filtered p m i) next ∙ those_last p (k - i) i ∙ ap (λ (m : ℕ). filtered p (k - i) i ++ keep_if (p m) m []) here

    pub passes : p k ≡ false → Gathering p n i table₀ from table end (k + 1)
    passes e =
        let m : filtered p (k + 1 - i) i ≡ filtered p (k - i) i = more ∙ rw e (append-nil (filtered p (k - i) i)) in
        record { room = g.room; least = omega (arith, g.least); most = omega arith; same = rw m g.same; last = rw m g.last }

    module _ (e : p k ≡ true) where
      longer : filtered p (k + 1 - i) i ≡ filtered p (k - i) i ++ (k ∷ [])
      longer = more ∙ rw e

      -- there is room for it
      fits : from + length (filtered p (k - i) i) + 1 ≤ length table₀
      fits = omega (arith, g.room, those_prefix p (k + 1 - i) n i (omega (arith, g.least)), ap length longer, length-append (filtered p (k - i) i) (k ∷ []))

      pub within : end < length table
      within = omega (arith, fits, g.last, length_gathered)

      pub keeps : Gathering p n i table₀ from (set table end k) (end + 1) (k + 1)
      keeps = record {
        room = g.room;
        least = omega (arith, g.least);
        most = omega arith;
        same =
            write_byte table end k within
            ∙ rw (longer, g.same, g.last) (write_write table₀ from (filtered p (k - i) i) (omega (arith, fits)) (k ∷ []) (omega (arith, fits)));
        last = omega (arith, g.last, ap length longer, length-append (filtered p (k - i) i) (k ∷ []));
      }
