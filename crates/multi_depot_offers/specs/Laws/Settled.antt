-- Offers come to an end: each round of them that moves a stop lowers the attempts left. Assumes nothing.
use Rattle.std.specs.Prelude.{◌≡◌, ◌⊎◌, Bool, not, ◌&&◌, ◌||◌, cond, eqb, length}
use Rattle.std.proofs.Math.Path.{refl, ap}
use Rattle.std.proofs.Common.{sym, ◌∙◌, suc-mul, arith, true≢false}
use Prim.Native.Nat.{ℕ, zero, suc, ◌+◌, ◌*◌, ◌≤◌, ◌<◌}
use Rattle.std.proofs.Math.Logic.{inl, inr}
use Rattle.std.proofs.Math.Bool.{true, false}
use mathlib.Core.List.{List, [], ◌∷◌}
use borrow.Author.Tests.{leb-false, lt-leb, eqb-true, eq-eqb}
use Rattle.lists.specs.Count.{one, is_in}
use Rattle.lists.specs.Filter.{filtered}
use Rattle.lists.specs.Laws.Filter.{those_few, those_less}
use Rattle.sheet.specs.Fields.{rows_of}
use Rattle.sheet.specs.Depots.{depots_of}
use Rattle.sheet.specs.Laws.Depots.{depots_few}
use Rattle.sheet.specs.Accepted.{Accepted}
use Rattle.multi_depot_offers.specs.ByDepot.{has_vehicle, is_no_depot, sooner, asked_after, nearer, nearest_from, next_depot, planned_at, moves_to, offered_from, after_offers, moved, settled_in, first_from, first_depots, settled_at}
use Rattle.multi_depot_offers.specs.Laws.Sooner.{sooner_trans, not_itself}

-- how many depots a row at d may still be offered to
unfoldable pub attempts : List ℕ → ℕ → ℕ → ℕ
attempts s c d = length (filtered (asked_after s c d) (depots_of s) 0)

-- all rows' from row c on
unfoldable pub attempts_from : List ℕ → ℕ → List ℕ → ℕ
attempts_from s c [] = 0
attempts_from s c (d ∷ at) = attempts s c d + attempts_from s (c + 1) at

abbrev pub attempts_left : List ℕ → List ℕ → ℕ
attempts_left s at = attempts_from s 0 at

-- ---- two truths
pub and_first : (a b : Bool) → (a && b) ≡ true → a ≡ true
and_first true b e = refl
and_first false b e = e

pub and_second : (a b : Bool) → (a && b) ≡ true → b ≡ true
and_second true b e = e
and_second false b e = absurd (true≢false (sym e))

pub and_false : (b : Bool) → (b && false) ≡ false
and_false true = refl
and_false false = refl

implies : (a b : Bool) → (a ≡ true → b ≡ true) → one a ≤ one b
implies true b h = rw (h refl) (omega arith)
implies false b h = omega arith

-- ---- the next depot is one that is asked
module _ (s : List ℕ) (c after : ℕ) where
  nearer_asked : (best d : ℕ) → (is_no_depot s best ≡ false → asked_after s c after best ≡ true) → is_no_depot s (nearer s c after best d) ≡ false → asked_after s c after (nearer s c after best d) ≡ true
  nearer_asked best d h = go (asked_after s c after d && (is_no_depot s best || sooner s c d best)) refl
    where
      go : (b : Bool) → (asked_after s c after d && (is_no_depot s best || sooner s c d best)) ≡ b → is_no_depot s (cond b d best) ≡ false → asked_after s c after (cond b d best) ≡ true
      go true e n = and_first (asked_after s c after d) (is_no_depot s best || sooner s c d best) e
      go false e n = h n

  nearest_asked : (n d best : ℕ) → (is_no_depot s best ≡ false → asked_after s c after best ≡ true) → is_no_depot s (nearest_from s c after n d best) ≡ false → asked_after s c after (nearest_from s c after n d best) ≡ true
  unfolding nearest_from
  nearest_asked zero d best h = h
  nearest_asked (suc n) d best h = nearest_asked n (d + 1) (nearer s c after best d) (nearer_asked best d h)

  pub next_asked : is_no_depot s (next_depot s c after) ≡ false → asked_after s c after (next_depot s c after) ≡ true
  unfolding next_depot
  next_asked = nearest_asked (depots_of s) 0 (depots_of s) (λ e. absurd (let l = leb-false (depots_of s) (depots_of s) e in omega arith))

-- ---- each move is an attempt less
module _ (s : List ℕ) (a : Accepted s) (c : ℕ) (row : c < rows_of s) where
  pub depot_row : (d : ℕ) → d < depots_of s → d < rows_of s
  depot_row d h = let k = depots_few s (omega arith) in omega arith

  module _ (d e : ℕ) (h : e < depots_of s) (asked : asked_after s c d e ≡ true) where
    someone : is_no_depot s e ≡ false
    someone = lt-leb (depots_of s) e h

    fewer : (x : ℕ) → x < depots_of s → asked_after s c e x ≡ true → asked_after s c d x ≡ true
    unfolding asked_after
    fewer x k t = go (is_no_depot s d) refl (and_second (has_vehicle s e) (is_no_depot s d || sooner s c d e) asked)
      where
        near : sooner s c e x ≡ true
        near = rw someone at (and_second (has_vehicle s x) (is_no_depot s e || sooner s c e x) t)

        go : (b : Bool) → is_no_depot s d ≡ b → (b || sooner s c d e) ≡ true → (has_vehicle s x && (is_no_depot s d || sooner s c d x)) ≡ true
        go true n u = rw (and_first (has_vehicle s x) (is_no_depot s e || sooner s c e x) t, n)
        go false n u =
            let l = leb-false (depots_of s) d n in
            rw (and_first (has_vehicle s x) (is_no_depot s e || sooner s c e x) t, n) (sooner_trans s a c row d e x (depot_row d l) (depot_row e h) (depot_row x k) u near)

    spent : asked_after s c e e ≡ false
    unfolding asked_after
    spent = go (sooner s c e e) refl
      where
        go : (b : Bool) → sooner s c e e ≡ b → (has_vehicle s e && (is_no_depot s e || sooner s c e e)) ≡ false
        go true t = absurd (not_itself s a c row e (depot_row e h) t)
        go false t = rw (someone, t) (and_false (has_vehicle s e))

    pub attempts_fall : attempts s c e < attempts s c d
    unfolding attempts
    attempts_fall = those_less (asked_after s c d) (asked_after s c e) (depots_of s) 0 e (λ x l u. implies (asked_after s c e x) (asked_after s c d x) (fewer x (omega arith))) (omega arith) (omega arith) asked spent

  -- a row's offer: it stays, or has an attempt less
  row_falls : (turned : Bool) (d : ℕ) → (moves_to s turned c d ≡ d) ⊎ (attempts s c (moves_to s turned c d) < attempts s c d)
  unfolding moves_to
  row_falls false d = inl refl
  row_falls true d = go (is_no_depot s (next_depot s c d)) refl
    where
      go : (b : Bool) → is_no_depot s (next_depot s c d) ≡ b → (cond (not b) (next_depot s c d) d ≡ d) ⊎ (attempts s c (cond (not b) (next_depot s c d) d) < attempts s c d)
      go true n = inl refl
      go false n = inr (attempts_fall d (next_depot s c d) (leb-false (depots_of s) (next_depot s c d) n) (next_asked s c d n))

module _ (s : List ℕ) (a : Accepted s) (aside : List ℕ) where
  -- all rows' offers: none moves, or the attempts left fall
  offers_fall : (at : List ℕ) (c : ℕ) → c + length at ≤ rows_of s
      → (offered_from s aside c at ≡ at) ⊎ (attempts_from s c (offered_from s aside c at) < attempts_from s c at)
  unfolding offered_from attempts_from
  offers_fall [] c h = inl refl
  offers_fall (d ∷ at) c h = go (row_falls s a c (omega arith) (is_in c aside) d) (offers_fall at (c + 1) (omega arith))
    where
      go : (moves_to s (is_in c aside) c d ≡ d) ⊎ (attempts s c (moves_to s (is_in c aside) c d) < attempts s c d)
          → (offered_from s aside (c + 1) at ≡ at) ⊎ (attempts_from s (c + 1) (offered_from s aside (c + 1) at) < attempts_from s (c + 1) at)
          → (moves_to s (is_in c aside) c d ∷ offered_from s aside (c + 1) at ≡ d ∷ at) ⊎ (attempts s c (moves_to s (is_in c aside) c d) + attempts_from s (c + 1) (offered_from s aside (c + 1) at) < attempts s c d + attempts_from s (c + 1) at)
      go (inl e) (inl f) = inl (rw (e, f))
      go (inl e) (inr l) = inr (rw e (omega arith))
      go (inr l) (inl f) = inr (rw f (omega arith))
      go (inr l) (inr m) = inr (omega arith)

-- ---- a list that has not moved is the same
same_moved : (at : List ℕ) → moved at at ≡ false
unfolding moved
same_moved [] = refl
same_moved (d ∷ at) = rw (eq-eqb d d refl) (same_moved at)

offered_long : (s aside at : List ℕ) (c : ℕ) → length (offered_from s aside c at) ≡ length at
unfolding offered_from
offered_long s aside [] c = refl
offered_long s aside (d ∷ at) c = ap suc (offered_long s aside at (c + 1))

pub length_offered : (s at : List ℕ) → length (after_offers s at) ≡ length at
unfolding after_offers
length_offered s at = offered_long s (planned_at s at).aside at 0

pub unmoved : (at after : List ℕ) → length after ≡ length at → moved at after ≡ false → after ≡ at
unfolding moved
unmoved [] [] h e = refl
unmoved [] (x ∷ after) h e = absurd (omega arith)
unmoved (d ∷ at) [] h e = absurd (omega arith)
unmoved (d ∷ at) (x ∷ after) h e = go (eqb d x) refl e (λ f. unmoved at after (omega arith) f)
  where
    go : (b : Bool) → eqb d x ≡ b → (not b || moved at after) ≡ false → (moved at after ≡ false → after ≡ at) → x ∷ after ≡ d ∷ at
    go true t f r = rw (r f, eqb-true d x t)
    go false t f r = absurd (true≢false f)

-- ---- a round of offers
module _ (s : List ℕ) (a : Accepted s) (at : List ℕ) (long : length at ≡ rows_of s) where
  pub offer_falls : moved at (after_offers s at) ≡ true → attempts_left s (after_offers s at) < attempts_left s at
  unfolding after_offers
  offer_falls e = go (offers_fall s a (planned_at s at).aside at 0 (omega arith))
    where
      go : (offered_from s (planned_at s at).aside 0 at ≡ at) ⊎ (attempts_from s 0 (offered_from s (planned_at s at).aside 0 at) < attempts_from s 0 at) → attempts_from s 0 (offered_from s (planned_at s at).aside 0 at) < attempts_from s 0 at
      go (inl f) = absurd (true≢false (sym e ∙ ap (moved at) f ∙ same_moved at))
      go (inr l) = l

pub settles : (s at : List ℕ) (n : ℕ) → moved at (after_offers s at) ≡ false → settled_in n s at ≡ at
unfolding settled_in
settles s at zero e = refl
settles s at (suc n) e = rw e

pub moves_on : (s at : List ℕ) (n : ℕ) → moved at (after_offers s at) ≡ true → settled_in (suc n) s at ≡ settled_in n s (after_offers s at)
unfolding settled_in
moves_on s at n e = rw e

settled_in_lem : (s : List ℕ) → Accepted s → (n : ℕ) (at : List ℕ) → length at ≡ rows_of s → attempts_left s at ≤ n → after_offers s (settled_in n s at) ≡ settled_in n s at
settled_in_lem s a zero at l h = go (moved at (after_offers s at)) refl
  where
    go : (b : Bool) → moved at (after_offers s at) ≡ b → after_offers s (settled_in zero s at) ≡ settled_in zero s at
    go true e = absurd (let f = offer_falls s a at l e in omega arith)
    go false e = rw (settles s at zero e) (unmoved at (after_offers s at) (length_offered s at) e)
settled_in_lem s a (suc n) at l h = go (moved at (after_offers s at)) refl (λ f. settled_in_lem s a n (after_offers s at) (length_offered s at ∙ l) (omega arith))
  where
    go : (b : Bool) → moved at (after_offers s at) ≡ b → (attempts_left s (after_offers s at) < attempts_left s at → after_offers s (settled_in n s (after_offers s at)) ≡ settled_in n s (after_offers s at)) → after_offers s (settled_in (suc n) s at) ≡ settled_in (suc n) s at
    go true e r = rw (moves_on s at n e) (r (offer_falls s a at l e))
    go false e r = rw (settles s at (suc n) e) (unmoved at (after_offers s at) (length_offered s at) e)

-- ---- the first round
attempts_few : (s at : List ℕ) (c : ℕ) → attempts_from s c at ≤ length at * depots_of s
unfolding attempts_from attempts
attempts_few s [] c = omega arith
attempts_few s (d ∷ at) c =
    omega (arith, attempts_few s at (c + 1), those_few (asked_after s c d) (depots_of s) 0, suc-mul (length at) (depots_of s))

length_from : (s : List ℕ) (n c : ℕ) → length (first_from s n c) ≡ n
unfolding first_from
length_from s zero c = refl
length_from s (suc n) c = ap suc (length_from s n (c + 1))

pub length_first : (s : List ℕ) → length (first_depots s) ≡ rows_of s
unfolding first_depots
length_first s = length_from s (rows_of s) 0

pub enough : (s : List ℕ) → attempts_left s (first_depots s) ≤ rows_of s * depots_of s
enough s = rw (length_first s) at (attempts_few s (first_depots s) 0)

-- once the offers are over no stop moves
pub settled : (s : List ℕ) → Accepted s → after_offers s (settled_at s) ≡ settled_at s
unfolding settled_at
settled s a = settled_in_lem s a (rows_of s * depots_of s) (first_depots s) (length_first s) (enough s)
