-- Merging by the savings in the tables is merging by the savings. Assumes nothing.
use mathlib.Core.Path.{◌≡◌, refl, sym, ap, ◌∙◌}
use Prim.Native.Nat.{ℕ, ◌≤◌, ◌<◌}
use native.Mathlib.Nat.{le_trans}
use mathlib.Core.List.{List, [], ◌∷◌}
use native.Mathlib.Omega.{arith}
use lib.ListN.{length, get_or, take, length-take, length-map, get_or-map}
use lib.Seq.{get_or-take}
use lib.Ieee.{Float}
use Rattle.lists.specs.Every.{Every}
use Rattle.lists.specs.Laws.Every.{every_of, every_at, every_append}
use Rattle.sorting.specs.Lists.{Each}
use Rattle.sorting.specs.Laws.Stable.{each_at, sorted_each}
use Rattle.sorting.specs.Descending.{greater}
use Rattle.sheet.specs.Fields.{rows_of}
use Rattle.evaluation.specs.Routed.{Routed}
use Rattle.clarke_wright_savings.specs.declared.terms.Directed.{Directed}
use Rattle.clarke_wright_savings.specs.Savings.{Saving, saving_of, saves, savings_from, savings_of, values_of, numbered, ranked, starts_of, merge_of, after_merge, no_saving, merged_by, routes_of}
use Rattle.clarke_wright_savings.specs.Laws.Ranked.{kept_every, savings_entries}
use Rattle.clarke_wright_savings.specs.Listed.{froms_of, tos_of, Listed}
use Rattle.clarke_wright_merging.specs.Legs.{Legs, merged_in}

-- ---- legs between rows
module _ (s : List ℕ) where
  abbrev Rows : Saving → Type 0
  Rows x = (x.from < rows_of s) × (x.to < rows_of s)

  from_rows : (t : Directed) (i : ℕ) (js : List ℕ) → i < rows_of s → Every (λ (j : ℕ). j < rows_of s) js → Every Rows (savings_from s t i js)
  unfolding savings_from
  from_rows t i [] h e = tt
  from_rows t i (j ∷ js) h e = kept_every Rows (saves s t i j) (saving_of s t.common i j) (savings_from s t i js) (λ _. (h, e.0)) (from_rows t i js h e.1)

  savings_rows : (t : Directed) (members is : List ℕ) → Every (λ (j : ℕ). j < rows_of s) members → Every (λ (i : ℕ). i < rows_of s) is → Every Rows (savings_of s t members is)
  unfolding savings_of
  savings_rows t members [] e f = tt
  savings_rows t members (i ∷ is) e f =
      every_append Rows (savings_from s t i members) (savings_of s t members is) (from_rows t i members f.0 e) (savings_rows t members is e f.1)

ranked_within : (savings : List Saving) → Each (λ e. e < length savings) (ranked savings)
unfolding ranked
ranked_within savings =
    sorted_each (greater (values_of savings)) (λ e. e < length savings) (numbered (length savings) 0)
    (rw (length-map savings (λ (x : Saving). x.value)) at (savings_entries savings))

within : {A : Type 0} (n : ℕ) (xs ys : List A) → take n xs ≡ ys → length ys ≡ n → n ≤ length xs
within n xs ys e l = omega (arith, ap length e, length-take n xs, l)

module _ (savings : List Saving) (from to : List ℕ) (values : List Float) (l : Listed savings from to values) where
  starts_at : (e : ℕ) → e < length savings → get_or from e 0 ≡ (get_or savings e no_saving).from
  starts_at e h =
      sym (get_or-take (length savings) from e 0 h)
      ∙ ap (λ (xs : List ℕ). get_or xs e 0) l.starts
      ∙ get_or-map (λ (x : Saving). x.from) savings e no_saving

  ends_at : (e : ℕ) → e < length savings → get_or to e 0 ≡ (get_or savings e no_saving).to
  ends_at e h =
      sym (get_or-take (length savings) to e 0 h)
      ∙ ap (λ (xs : List ℕ). get_or xs e 0) l.ends
      ∙ get_or-map (λ (x : Saving). x.to) savings e no_saving

  starts_hold : length savings ≤ length from
  starts_hold = within (length savings) from (froms_of savings) l.starts (length-map savings (λ (x : Saving). x.from))

  ends_hold : length savings ≤ length to
  ends_hold = within (length savings) to (tos_of savings) l.ends (length-map savings (λ (x : Saving). x.to))

  merged_same : (s : List ℕ) (t : Directed) (es : List ℕ) → Each (λ e. e < length savings) es → (routes : List (List ℕ))
      → merged_in s t from to es routes ≡ merged_by s t savings es routes
  unfolding merged_in merged_by
  merged_same s t [] h routes = refl
  merged_same s t (e ∷ es) h routes =
      let x = get_or savings e no_saving in
      ap (λ (i : ℕ). merged_in s t from to es (after_merge routes (merge_of s t routes i (get_or to e 0)))) (starts_at e h.0)
      ∙ ap (λ (j : ℕ). merged_in s t from to es (after_merge routes (merge_of s t routes x.from j))) (ends_at e h.0)
      ∙ merged_same s t es h.1 (after_merge routes (merge_of s t routes x.from x.to))

module _
    (s : List ℕ)
    (t : Directed)
    (members from to : List ℕ)
    (values : List Float)
    (entries : List ℕ)
    (n : ℕ)
    (l : Listed (savings_of s t members members) from to values)
    (e : take n entries ≡ ranked (savings_of s t members members))
  where
    abbrev all : List Saving
    all = savings_of s t members members

    -- LEGS BETWEEN MEMBERS: each place that is ranked is one of the tables', with rows of the sheet
    pub ranked_legs : (depot : ℕ) → Routed s depot members → Legs s from to (take n entries)
    ranked_legs depot r =
        let ms = every_of (λ (i : ℕ). i < rows_of s) 0 members r.row in
        let rows = savings_rows s t members members ms ms in
        let at : (k : ℕ) → k < length (take n entries) → get_or (take n entries) k 0 < length all = λ k h. each_at (λ i. i < length all) (take n entries) k h (rw e (ranked_within all)) in
        let row : (i : ℕ) → i < length all → Rows s (get_or all i no_saving) = λ i h. every_at (Rows s) no_saving all i h rows in
        record {
          starts = λ k h. le_trans (at k h) (starts_hold all from to values l);
          ends = λ k h. le_trans (at k h) (ends_hold all from to values l);
          from_row = λ k h. rw (starts_at all from to values l (get_or (take n entries) k 0) (at k h)) (row (get_or (take n entries) k 0) (at k h)).0;
          to_row = λ k h. rw (ends_at all from to values l (get_or (take n entries) k 0) (at k h)) (row (get_or (take n entries) k 0) (at k h)).1;
        }

    -- MERGING BY THE TABLES is merging by the savings, greatest first
    pub ranked_merges : (routes : List (List ℕ)) → merged_in s t from to (take n entries) routes ≡ merged_by s t (savings_of s t members members) (ranked (savings_of s t members members)) routes
    ranked_merges routes = rw e (merged_same all from to values l s t (ranked all) (ranked_within all) routes)

-- ---- all savings, greatest first: the rounds, once none is left
pub merged_routes : (s : List ℕ) (t : Directed) (members from to : List ℕ) (values : List Float) (entries : List ℕ) (n : ℕ)
    → Listed (savings_of s t members members) from to values → take n entries ≡ ranked (savings_of s t members members)
    → (starts routes : List (List ℕ)) → starts ≡ starts_of s t.common members → routes ≡ merged_in s t from to (take n entries) starts → routes ≡ routes_of s t members
merged_routes s t members from to values entries n l e starts routes p q =
    q ∙ ap (merged_in s t from to (take n entries)) p ∙ ranked_merges s t members from to values entries n l e (starts_of s t.common members)
