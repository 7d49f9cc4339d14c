-- The savings in the tables: what the sort asks of them and leaves. Assumes nothing.
use mathlib.Core.Path.{◌≡◌, sym, ◌∙◌}
use Prim.Native.Nat.{ℕ, ◌*◌, ◌≤◌}
use native.Mathlib.Nat.{zero-add}
use native.Mathlib.Omega.{arith}
use mathlib.Core.List.{List, ◌++◌}
use lib.ListN.{length, take, drop, length-append, length-drop, length-map}
use lib.Seq.{take_at}
use lib.Ieee.{Float}
use Rattle.constructive.specs.Laws.TableContents.{long_enough}
use Rattle.sorting.specs.Stable.{sorted}
use Rattle.sorting.specs.Descending.{greater, Numbers, Entries}
use Rattle.clarke_wright_savings.specs.declared.terms.Directed.{Directed}
use Rattle.clarke_wright_savings.specs.Savings.{Saving, savings_of, values_of, numbered, ranked}
use Rattle.clarke_wright_savings.specs.Laws.Ranked.{savings_numbers, savings_entries, savings_few}
use Rattle.clarke_wright_savings.specs.Laws.Choice.{numbered_length}
use Rattle.clarke_wright_savings.specs.Listed.{SavingsPushed, Listed}

-- ---- the sort
module _
    (s : List ℕ)
    (t : Directed)
    (members : List ℕ)
    {from₀ to₀ : List ℕ}
    {values₀ : List Float}
    {entries₀ from to : List ℕ}
    {values : List Float}
    {entries : List ℕ}
    {count : ℕ}
    (n : count ≡ length (savings_of s t members members))
    (p : SavingsPushed from₀ to₀ values₀ entries₀ 0 (savings_of s t members members) from to values entries)
  where
    abbrev savings : List Saving
    savings = savings_of s t members members

    pub listed : Listed (savings_of s t members members) from to values
    listed = record {
      starts = rw (zero-add (length savings)) at p.starts;
      ends = rw (zero-add (length savings)) at p.ends;
      saved = rw (zero-add (length savings)) at p.saved;
    }

    keys : take count values ≡ values_of savings
    keys = rw n listed.saved

    places : take count entries ≡ numbered (length savings) 0
    places = rw n (rw (zero-add (length savings)) at p.placed)

    pub values_hold : count ≤ length values
    values_hold = long_enough values (values_of savings) count keys (length-map savings (λ (x : Saving). x.value) ∙ sym n)

    pub entries_hold : count ≤ length entries
    entries_hold = long_enough entries (numbered (length savings) 0) count places (numbered_length (length savings) 0 ∙ sym n)

    pub numbers : Numbers (take count values)
    numbers = rw keys (savings_numbers s t members members)

    pub placed : Entries (take count values) (take count entries)
    placed = rw (keys, places) (savings_entries savings)

    -- the places in another order are as many
    pub as_many : (front : List ℕ) → length front ≡ count → length (front ++ drop count entries) ≡ length entries
    as_many front l = length-append front (drop count entries) ∙ omega (arith, l, length-drop count entries, entries_hold)

    -- they fit in the tables
    pub few : count ≤ length members * length members
    few = omega (arith, n, savings_few s t members members)

    pub in_rank : (front behind : List ℕ) → length front ≡ count → front ≡ sorted (greater (take count values)) (take count entries)
        → take count (front ++ behind) ≡ ranked (savings_of s t members members)
    unfolding ranked
    in_rank front behind l e = take_at front behind count l ∙ e ∙ rw (keys, places)
