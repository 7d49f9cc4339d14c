-- The marks after an offer: a row is turned down by its own depot alone, and a depot with the same members turns the same ones down. Assumes nothing.
use mathlib.Core.Path.{◌≡◌, refl, sym, ap, ◌∙◌}
use Prim.Native.Nat.{ℕ, zero, suc, ◌+◌, ◌-◌, ◌≤◌, ◌<◌}
use native.Mathlib.Omega.{arith}
use mathlib.Core.Bool.{Bool, true, false, not, ◌&&◌, cond}
use mathlib.Core.List.{List, [], ◌∷◌}
use lib.Dec.{ltb, eqb}
use lib.ListN.{length, get_or, set, length-set}
use lib.Seq.{get_or-set_same, get_or-set_other}
use borrow.Author.Tests.{ltb-true, ltb-false, leb-false, eqb-true, eqb-false, lt-ltb, le-ltb, eq-eqb, ne_eqb}
use Rattle.lists.specs.Count.{one, count, is_in}
use Rattle.lists.specs.Laws.Once.{count_append}
use Rattle.lists.specs.Laws.Filter.{those_few, those_alike}
use Rattle.sheet.specs.Fields.{rows_of}
use Rattle.sheet.specs.Depots.{depots_of}
use Rattle.sheet.specs.Stops.{is_stop}
use Rattle.sheet.specs.Laws.Stops.{stops_count}
use Rattle.constructive.specs.Laws.TableContents.{empty}
use Rattle.constructive.specs.Members.{members_of}
use Rattle.constructive.specs.Marks.{Marks, marked_by}
use Rattle.multi_depot_offers.specs.ByDepot.{is_no_depot, next_depot, planned_of, planned_upto, planned_at, moves_to, offered_from, after_offers}
use Rattle.multi_depot_offers.specs.Promises.{Cleared, Alike, Next}
use Rattle.multi_depot_planning.proofs.Plans.{aside_members}
use Rattle.multi_depot_settling.specs.Promises.{MarksUpdated}

-- ---- a row is turned down by its own depot alone
-- a depot's stops set aside
abbrev aside_of : List ℕ → List ℕ → ℕ → List ℕ
aside_of s at d = (planned_of s d (members_of s at d)).aside

and_few : (a b : Bool) → one (a && b) ≤ one b
and_few true b = omega arith
and_few false true = omega arith
and_few false false = omega arith

aside_few : (s at : List ℕ) (d c : ℕ) → count c (aside_of s at d) ≤ one (eqb (get_or at c 0) d)
unfolding members_of
aside_few s at d c = omega (arith, aside_members s at d c, stops_count s (λ c. eqb (get_or at c 0) d) c, and_few (is_stop s c) (eqb (get_or at c 0) d))

aside_none : (s at : List ℕ) (d c : ℕ) → eqb (get_or at c 0) d ≡ false → count c (aside_of s at d) ≡ 0
aside_none s at d c e = omega (arith, aside_few s at d c, ap one e)

aside_own : (s at : List ℕ) (c n : ℕ) → count c (planned_upto s at n).aside ≡ cond (ltb (get_or at c 0) n) (count c (aside_of s at (get_or at c 0))) 0
unfolding planned_upto count
aside_own s at c zero = rw (le-ltb (get_or at c 0) 0 (omega arith))
aside_own s at c (suc n) = count_append c (planned_upto s at n).aside (aside_of s at n) ∙ rw (aside_own s at c n) (go (ltb (get_or at c 0) n) (eqb (get_or at c 0) n) refl refl)
  where
    go : (a b : Bool) → ltb (get_or at c 0) n ≡ a → eqb (get_or at c 0) n ≡ b → cond a (count c (aside_of s at (get_or at c 0))) 0 + count c (aside_of s at n) ≡ cond (ltb (get_or at c 0) (suc n)) (count c (aside_of s at (get_or at c 0))) 0
    go true b l e =
        let h = ltb-true (get_or at c 0) n l in
        rw (lt-ltb (get_or at c 0) (suc n) (omega arith), aside_none s at n c (ne_eqb (get_or at c 0) n (λ q. absurd (omega arith)))) (omega arith)
    go false true l e =
        let h = eqb-true (get_or at c 0) n e in
        rw (lt-ltb (get_or at c 0) (suc n) (omega arith)) (omega (arith, ap (λ (d : ℕ). count c (aside_of s at d)) h))
    go false false l e =
        let h = ltb-false (get_or at c 0) n l in
        rw (le-ltb (get_or at c 0) (suc n) (omega (arith, eqb-false (get_or at c 0) n e)), aside_none s at n c e)

turned_own : (s at : List ℕ) (c : ℕ) → get_or at c 0 < depots_of s → is_in c (planned_at s at).aside ≡ is_in c (aside_of s at (get_or at c 0))
turned_own s at c h = rw (aside_own s at c (depots_of s), lt-ltb (get_or at c 0) (depots_of s) h)

turned_unassigned : (s at : List ℕ) (c : ℕ) → depots_of s ≤ get_or at c 0 → is_in c (planned_at s at).aside ≡ false
turned_unassigned s at c h = rw (aside_own s at c (depots_of s), le-ltb (get_or at c 0) (depots_of s) h)

-- ---- the same members
module _ (s before at : List ℕ) (d : ℕ) (rows : length at ≡ rows_of s) (same : Alike before at d) where
  members_alike : members_of s before d ≡ members_of s at d
  unfolding members_of
  members_alike = those_alike (λ c. eqb (get_or before c 0) d) (λ c. eqb (get_or at c 0) d) (rows_of s - depots_of s) (depots_of s) (λ c l u. same c (omega arith))

  turned_alike : d < depots_of s → (c : ℕ) → c < rows_of s → get_or at c 0 ≡ d → is_in c (planned_at s before).aside ≡ is_in c (planned_at s at).aside
  turned_alike h c l e =
      let f : get_or before c 0 ≡ d = eqb-true (get_or before c 0) d (same c (omega arith) ∙ eq-eqb (get_or at c 0) d e) in
      turned_own s before c (omega arith)
      ∙ ap (λ (m : ℕ). is_in c (aside_of s before m)) f
      ∙ ap (λ (ms : List ℕ). is_in c (planned_of s d ms).aside) members_alike
      ∙ ap (λ (m : ℕ). is_in c (aside_of s at m)) (sym e)
      ∙ sym (turned_own s at c (omega arith))

-- ---- a row of no depot after an offer was one before it
stays_unassigned : (s : List ℕ) (turned : Bool) (c d : ℕ) → depots_of s ≤ moves_to s turned c d → depots_of s ≤ d
unfolding moves_to
stays_unassigned s false c d h = h
stays_unassigned s true c d h = go (is_no_depot s (next_depot s c d)) refl h
  where
    go : (b : Bool) → is_no_depot s (next_depot s c d) ≡ b → depots_of s ≤ cond (not b) (next_depot s c d) d → depots_of s ≤ d
    go true e k = k
    go false e k = absurd (let l = leb-false (depots_of s) (next_depot s c d) e in omega arith)

unassigned_from : (s aside at : List ℕ) (c k : ℕ) → depots_of s ≤ get_or (offered_from s aside c at) k 0 → depots_of s ≤ get_or at k 0
unfolding offered_from
unassigned_from s aside [] c k h = h
unassigned_from s aside (d ∷ at) c zero h = stays_unassigned s (is_in c aside) c d h
unassigned_from s aside (d ∷ at) c (suc k) h = unassigned_from s aside at (c + 1) k h

unassigned : (s before at : List ℕ) → at ≡ after_offers s before → (c : ℕ) → depots_of s ≤ get_or at c 0 → depots_of s ≤ get_or before c 0
unfolding after_offers
unassigned s before at e c h = unassigned_from s (planned_at s before).aside before 0 c (rw e at h)

-- ---- a depot's marks anew
cond_same : (b : Bool) → cond {A = ℕ} b 1 1 ≡ 1
cond_same true = refl
cond_same false = refl

marked_at : (marks xs : List ℕ) (c : ℕ) → c < length marks → get_or (marked_by marks xs) c 0 ≡ cond (is_in c xs) 1 (get_or marks c 0)
unfolding marked_by count
marked_at marks [] c h = refl
marked_at marks (y ∷ ys) c h = marked_at (set marks y 1) ys c (omega (arith, length-set marks y 1)) ∙ go (eqb c y) refl
  where
    go : (b : Bool) → eqb c y ≡ b → cond (is_in c ys) 1 (get_or (set marks y 1) c 0) ≡ cond (ltb 0 (one (eqb c y) + count c ys)) 1 (get_or marks c 0)
    go true e =
        let q : y ≡ c = sym (eqb-true c y e) in
        let g : get_or (set marks y 1) c 0 ≡ 1 = rw q (get_or-set_same marks c 1 0 h) in
        rw (g, e, lt-ltb 0 (1 + count c ys) (omega arith)) (cond_same (is_in c ys))
    go false e =
        let n : 0 + count c ys ≡ count c ys = omega arith in
        rw (get_or-set_other marks y c 1 0 (eqb-false c y e), e, n)

marked_one : (b : Bool) → cond b 1 0 ≡ one b
marked_one true = refl
marked_one false = refl

pub remarked : {s at marks marks₁ marks₂ : List ℕ} (d : ℕ) → length at ≡ rows_of s → rows_of s ≤ length marks₁ → d < depots_of s → Cleared at marks d marks₁ → marks₂ ≡ marked_by marks₁ (aside_of s at d) → MarksUpdated s at marks d marks₂
remarked {s} {at} {marks} {marks₁} d rows long h k e = rw e (record {
  mark = λ c l q.
      marked_at marks₁ (aside_of s at d) c (omega arith)
      ∙ ap (cond (is_in c (aside_of s at d)) 1) (k.gone c (omega arith) q)
      ∙ marked_one (is_in c (aside_of s at d))
      ∙ ap one (ap (λ (m : ℕ). is_in c (aside_of s at m)) (sym q) ∙ sym (turned_own s at c (omega arith)));
  kept = λ c l q.
      marked_at marks₁ (aside_of s at d) c (omega arith)
      ∙ ap (λ (n : ℕ). cond (ltb 0 n) 1 (get_or marks₁ c 0)) (aside_none s at d c (ne_eqb (get_or at c 0) d q))
      ∙ k.kept c q;
})

-- from the start of the tables on there is room
pub next_alone : (s at : List ℕ) (d : ℕ) → d < depots_of s → Next s at d empty
unfolding members_of
next_alone s at d h = record { home = h; rounds = omega arith; room = omega (arith, those_few (λ c. eqb (get_or at c 0) d) (rows_of s - depots_of s) (depots_of s)) }

-- ---- the depots one after another
-- the rows of those before this one are marked anew, the others as before the offer
pub record UpdatingMarks (s before at marks : List ℕ) (depot : ℕ) : Type 0 where
  pub done : (c : ℕ) → c < rows_of s → get_or at c 0 < depot → get_or marks c 0 ≡ one (is_in c (planned_at s at).aside)
  pub left : (c : ℕ) → c < rows_of s → depot ≤ get_or at c 0 → get_or marks c 0 ≡ one (is_in c (planned_at s before).aside)

module _ {s before at marks : List ℕ} {d : ℕ} (r : UpdatingMarks s before at marks d) where
  -- a depot more, whose members are the same
  pub passes : length at ≡ rows_of s → d < depots_of s → Alike before at d → UpdatingMarks s before at marks (d + 1)
  passes rows h same = record { done = λ c l k. go c l k (eqb (get_or at c 0) d) refl; left = λ c l k. r.left c l (omega arith) }
    where
      go : (c : ℕ) → c < rows_of s → get_or at c 0 < d + 1 → (b : Bool) → eqb (get_or at c 0) d ≡ b → get_or marks c 0 ≡ one (is_in c (planned_at s at).aside)
      go c l k true e = let q = eqb-true (get_or at c 0) d e in r.left c l (omega arith) ∙ ap one (turned_alike s before at d rows same h c l q)
      go c l k false e = r.done c l (omega (arith, eqb-false (get_or at c 0) d e))

  pub ends : depots_of s ≤ d → at ≡ after_offers s before → rows_of s ≤ length marks → Marks s marks (planned_at s at).aside
  ends h e long = record { long = long; mark = λ c l. go c l (ltb (get_or at c 0) d) refl }
    where
      go : (c : ℕ) → c < rows_of s → (b : Bool) → ltb (get_or at c 0) d ≡ b → get_or marks c 0 ≡ one (is_in c (planned_at s at).aside)
      go c l true t = r.done c l (ltb-true (get_or at c 0) d t)
      go c l false t =
          let k = ltb-false (get_or at c 0) d t in
          r.left c l k ∙ ap one (turned_unassigned s before c (unassigned s before at e c (omega arith)) ∙ sym (turned_unassigned s at c (omega arith)))
