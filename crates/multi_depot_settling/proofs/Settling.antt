-- The rounds of offers: one that moves a stop leaves fewer attempts, and one that moves none is the last. Assumes nothing.
use mathlib.Core.Path.{◌≡◌, refl, ◌∙◌}
use Prim.Native.Nat.{ℕ, zero, suc, ◌*◌, ◌≤◌, ◌<◌}
use native.Mathlib.Omega.{arith}
use mathlib.Core.Bool.{true, false}
use mathlib.Core.List.{List}
use lib.ListN.{length}
use Rattle.sheet.specs.Fields.{rows_of}
use Rattle.sheet.specs.Depots.{depots_of}
use Rattle.sheet.specs.Accepted.{Accepted}
use Rattle.multi_depot_offers.specs.ByDepot.{after_offers, moved, settled_in, first_depots, settled_at}
use Rattle.multi_depot_offers.specs.Laws.Settled.{attempts_left, length_offered, unmoved, offer_falls, settles, moves_on, length_first, enough}

-- so many rounds of offers are enough, and settle the stops as they are to be
pub record Settling (s at : List ℕ) : Type 0 where
  pub long : length at ≡ rows_of s
  pub rounds : ℕ
  pub most : attempts_left s at ≤ rounds
  pub same : settled_at s ≡ settled_in rounds s at

pub begins : (s at : List ℕ) → at ≡ first_depots s → Settling s at
unfolding settled_at
begins s at e = rw e (record { long = length_first s; rounds = rows_of s * depots_of s; most = enough s; same = refl })

module _ (s at : List ℕ) (a : Accepted s) (g : Settling s at) where
  pub falls : moved at (after_offers s at) ≡ true → attempts_left s (after_offers s at) < attempts_left s at
  falls e = offer_falls s a at g.long e

  pub goes_on : moved at (after_offers s at) ≡ true → Settling s (after_offers s at)
  goes_on e = go g.rounds g.most g.same
    where
      go : (n : ℕ) → attempts_left s at ≤ n → settled_at s ≡ settled_in n s at → Settling s (after_offers s at)
      go zero h q = absurd (let f = falls e in omega arith)
      go (suc n) h q = record { long = length_offered s at ∙ g.long; rounds = n; most = let f = falls e in omega arith; same = q ∙ moves_on s at n e }

  module _ (e : moved at (after_offers s at) ≡ false) where
    pub stays : after_offers s at ≡ at
    stays = unmoved at (after_offers s at) (length_offered s at) e

    pub ends : settled_at s ≡ at
    ends = g.same ∙ settles s at g.rounds e
