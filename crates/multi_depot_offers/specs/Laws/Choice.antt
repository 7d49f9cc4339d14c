-- Which depot a stop goes to next: "its next nearest depot that has a vehicle". Assumes nothing.
use Rattle.std.specs.Prelude.{◌≡◌, Bool, ◌&&◌, ◌||◌, cond, List, eqb}
use Rattle.std.proofs.Math.Path.{refl}
use Rattle.std.proofs.Common.{sym, ◌∙◌, true≢false, leb-true, leb-false, eqb-true}
use Prim.Native.Nat.{ℕ, zero, suc, ◌+◌, ◌≤◌, ◌<◌}
use native.Mathlib.Omega.{arith}
use Rattle.std.proofs.Math.Bool.{true, false}
use Rattle.std.proofs.lemmas.Bool.{lt-leb, eqb-false}
use Rattle.sheet.specs.Fields.{rows_of}
use Rattle.sheet.specs.Depots.{depots_of}
use Rattle.sheet.specs.Accepted.{Accepted}
use Rattle.multi_depot_offers.specs.ByDepot.{has_vehicle, is_no_depot, sooner, asked_after, nearer, nearest_from, next_depot}
use Rattle.multi_depot_offers.specs.Laws.Sooner.{sooner_trans, not_itself}
use Rattle.multi_depot_offers.specs.Laws.Settled.{and_first, and_second, depot_row, next_asked}

-- a depot that stop c may go to after another: it has a vehicle, and comes after it in the order of their legs; after none each does
pub record Behind (s : List ℕ) (c after d : ℕ) : Type 0 where
  pub depot : d < depots_of s
  pub vehicle : has_vehicle s d ≡ true
  pub behind : after < depots_of s → sooner s c after d ≡ true

-- the next of them: none comes between
pub record NextNearest (s : List ℕ) (c after d : ℕ) : Type 0 where
  pub admissible : Behind s c after d
  pub first : (e : ℕ) → Behind s c after e → sooner s c e d ≡ false

-- ---- as the definition asks
module _ (s : List ℕ) (c after : ℕ) where
  asked_behind : (d : ℕ) → d < depots_of s → asked_after s c after d ≡ true → Behind s c after d
  unfolding asked_after
  asked_behind d h t = record {
    depot = h;
    vehicle = and_first (has_vehicle s d) (is_no_depot s after || sooner s c after d) t;
    behind = λ l. rw (lt-leb (depots_of s) after l) at (and_second (has_vehicle s d) (is_no_depot s after || sooner s c after d) t);
  }

  behind_asked : (d : ℕ) → Behind s c after d → asked_after s c after d ≡ true
  unfolding asked_after
  behind_asked d b = rw b.vehicle (go (is_no_depot s after) refl)
    where
      go : (n : Bool) → is_no_depot s after ≡ n → (n || sooner s c after d) ≡ true
      go true e = refl
      go false e = b.behind (leb-false (depots_of s) after e)

-- ---- over the depots seen: all below d
record Seen (s : List ℕ) (c after d best : ℕ) : Type 0 where
  none : depots_of s ≤ best → (e : ℕ) → e < d → asked_after s c after e ≡ true → ⊥
  first : best < depots_of s → (e : ℕ) → e < d → asked_after s c after e ≡ true → sooner s c e best ≡ false

module _ (s : List ℕ) (a : Accepted s) (c : ℕ) (row : c < rows_of s) (after : ℕ) where
  seen_more : (d best : ℕ) → d < depots_of s → Seen s c after d best → Seen s c after (d + 1) (nearer s c after best d)
  seen_more d best h k = go (asked_after s c after d) refl (is_no_depot s best) refl (sooner s c d best) refl
    where
      at : (P : ℕ → Type 0) → ((e : ℕ) → e < d → P e) → P d → (e : ℕ) → e < d + 1 → P e
      at P f p e l = pick (eqb e d) refl
        where
          pick : (b : Bool) → eqb e d ≡ b → P e
          pick true q = rw (eqb-true e d q) p
          pick false q = let n = eqb-false e d q in f e (omega arith)

      not_sooner : (e : ℕ) → (sooner s c e d ≡ true → ⊥) → sooner s c e d ≡ false
      not_sooner e f = pick (sooner s c e d) refl
        where
          pick : (b : Bool) → sooner s c e d ≡ b → sooner s c e d ≡ false
          pick true q = absurd (f q)
          pick false q = q

      go : (x : Bool) → asked_after s c after d ≡ x → (y : Bool) → is_no_depot s best ≡ y → (z : Bool) → sooner s c d best ≡ z → Seen s c after (d + 1) (cond (x && (y || z)) d best)
      go false p y q z r = record {
        none = λ n. at (λ (e : ℕ). asked_after s c after e ≡ true → ⊥) (k.none n) (λ t. true≢false (sym t ∙ p));
        first = λ n. at (λ (e : ℕ). asked_after s c after e ≡ true → sooner s c e best ≡ false) (k.first n) (λ t. absurd (true≢false (sym t ∙ p)));
      }
      go true p true q z r = record {
        none = λ n. absurd (omega arith);
        first = λ n. at (λ (e : ℕ). asked_after s c after e ≡ true → sooner s c e d ≡ false) (λ e l t. absurd (k.none (leb-true (depots_of s) best q) e l t))
            (λ t. not_sooner d (not_itself s a c row d (depot_row s a c row d h)));
      }
      go true p false q true r =
          let b = leb-false (depots_of s) best q in
          record {
            none = λ n. absurd (omega arith);
            first = λ n. at (λ (e : ℕ). asked_after s c after e ≡ true → sooner s c e d ≡ false)
                (λ e l t. not_sooner e (λ u. true≢false (sym (sooner_trans s a c row e d best (depot_row s a c row e (omega arith)) (depot_row s a c row d h) (depot_row s a c row best b) u r) ∙ k.first b e l t)))
                (λ t. not_sooner d (not_itself s a c row d (depot_row s a c row d h)));
          }
      go true p false q false r =
          let b = leb-false (depots_of s) best q in
          record {
            none = λ n. absurd (omega arith);
            first = λ n. at (λ (e : ℕ). asked_after s c after e ≡ true → sooner s c e best ≡ false) (k.first n) (λ t. r);
          }

  seen_from : (n d best : ℕ) → d + n ≤ depots_of s → Seen s c after d best → Seen s c after (d + n) (nearest_from s c after n d best)
  unfolding nearest_from
  seen_from zero d best h k = let e : d + 0 ≡ d = omega arith in rw e k
  seen_from (suc n) d best h k = let e : d + suc n ≡ d + 1 + n = omega arith in rw e (seen_from n (d + 1) (nearer s c after best d) (omega arith) (seen_more d best (omega arith) k))

  seen_all : Seen s c after (depots_of s) (next_depot s c after)
  unfolding next_depot
  seen_all =
      let e : 0 + depots_of s ≡ depots_of s = omega arith in
      rw e at (seen_from (depots_of s) 0 (depots_of s) (omega arith) (record { none = λ n e l. absurd (omega arith); first = λ n. absurd (omega arith) }))

  -- THE NEXT DEPOT is the next nearest that has a vehicle
  pub next_nearest : next_depot s c after < depots_of s → NextNearest s c after (next_depot s c after)
  next_nearest h = record {
    admissible = asked_behind s c after (next_depot s c after) h (next_asked s c after (lt-leb (depots_of s) (next_depot s c after) h));
    first = λ e b. seen_all.first h e b.depot (behind_asked s c after e b);
  }

  -- and where there is none, no depot with a vehicle comes after
  pub next_none : depots_of s ≤ next_depot s c after → (d : ℕ) → Behind s c after d → ⊥
  next_none h d b = seen_all.none h d b.depot (behind_asked s c after d b)
