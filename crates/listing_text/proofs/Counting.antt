-- The loop over the rounds: with the texts of the rounds left, the text is whole. Assumes nothing.
use mathlib.Core.Path.{◌≡◌}
use Prim.Native.Nat.{ℕ, suc, ◌+◌, ◌-◌, ◌≤◌, ◌<◌}
use native.Mathlib.Omega.{arith}
use mathlib.Core.List.{List, ◌∷◌}
use Rattle.lists.specs.Once.{Stops}
use Rattle.lists.specs.Laws.Once.{stops_split}
use Rattle.sheet.specs.Fields.{rows_of}
use Rattle.constructive.specs.Outcome.{chains}
use Rattle.plan.specs.Read.{first_stop_at, chain_of, rounds_from}
use Rattle.listing_text.specs.Text.{concatenated}
use Rattle.listing_text.specs.Put.{HasRoom, Appends}
use Rattle.listing_text.specs.declared.text.Text.{Text}
use Rattle.listing_text.specs.Listing.{round_text, round_texts}
use Rattle.listing_text.proofs.Putting.{Left, begins, fits, next, ends}

abbrev pub texts_from : List ℕ → List ℕ → ℕ → ℕ → List (List ℕ)
texts_from s plan m k = round_texts plan (rows_of s) k (rounds_from s plan m k)

-- after k of `total` rounds; `off` are the stops chained after them
pub record Counting (s plan : List ℕ) (total : ℕ) (off : List ℕ) (before after : Text) (k : ℕ) : Type 0 where
  pub few : k ≤ total
  pub left : Left before after (concatenated (texts_from s plan total 0)) (texts_from s plan (total - k) k)
  pub stops : Stops (rows_of s) (chains (rounds_from s plan (total - k) k) off)

module _ (s plan : List ℕ) (total : ℕ) (off : List ℕ) (t : Text) where
  pub starts : Stops (rows_of s) (chains (rounds_from s plan total 0) off) → HasRoom t (concatenated (texts_from s plan total 0)) → Counting s plan total off t t 0
  starts o r =
      let e : total - 0 ≡ total = omega arith in
      record { few = omega arith; left = rw e (begins t (texts_from s plan total 0) r); stops = rw e o }

module _ {s plan off : List ℕ} {total k : ℕ} {before after : Text} (g : Counting s plan total off before after k) where
  pub done : total ≤ k → Appends before after (concatenated (texts_from s plan total 0))
  unfolding rounds_from round_texts
  done h = let e : total - k ≡ 0 = omega arith in ends (rw e at g.left)

  module _ (more : k < total) where
    abbrev chain : List ℕ
    chain = chain_of s plan (first_stop_at plan k)

    here : Left before after (concatenated (texts_from s plan total 0)) (round_text plan (rows_of s) k chain ∷ texts_from s plan (total - (k + 1)) (k + 1))
    unfolding rounds_from round_texts
    here = let e : total - k ≡ suc (total - (k + 1)) = omega arith in rw e at g.left

    stops_here : Stops (rows_of s) chain × Stops (rows_of s) (chains (rounds_from s plan (total - (k + 1)) (k + 1)) off)
    unfolding rounds_from chains
    stops_here =
        let e : total - k ≡ suc (total - (k + 1)) = omega arith in
        stops_split (rows_of s) chain (chains (rounds_from s plan (total - (k + 1)) (k + 1)) off) (rw e at g.stops)

    pub chain_in : Stops (rows_of s) chain
    chain_in = stops_here.0

    pub round_fits : HasRoom after (round_text plan (rows_of s) k chain)
    round_fits = fits here

    pub goes_on : {u : Text} → Appends after u (round_text plan (rows_of s) k chain) → Counting s plan total off before u (k + 1)
    goes_on p = record { few = omega arith; left = next here p; stops = stops_here.1 }
