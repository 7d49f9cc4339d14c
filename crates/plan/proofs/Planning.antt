-- The plan: blank, the rounds, the stops set aside, the header. Assumes nothing.
use mathlib.Core.Path.{◌≡◌}
use Prim.Native.Nat.{ℕ, ◌+◌, ◌-◌, ◌≤◌}
use native.Mathlib.Omega.{arith}
use mathlib.Core.Bool.{Bool, true, false}
use mathlib.Core.List.{List}
use lib.ListN.{length, take, drop, replicate, length-take, length-drop}
use lib.Seq.{get_or-take, get_or-drop}
use lib.Ieee.{Float}
use Rattle.wire.specs.Bytes.{write}
use Rattle.numbers.specs.Laws.Upto.{no_nan}
use Rattle.numbers.specs.Laws.Range.{zero_upto}
use Rattle.sheet.specs.Fields.{rows_of, plan_length}
use Rattle.sheet.specs.Values.{nought}
use Rattle.evaluator.specs.Record.{price_start}
use Rattle.constructive.specs.Outcome.{rounds_in, start_in, outcome_in}
use Rattle.constructive.specs.Laws.Stored.{length_rounds}
use Rattle.constructive.specs.Tables.{Tables}
use Rattle.constructive.proofs.InTables.{start_in_lem, rounds_of_lem}
use Rattle.plan.specs.Plan.{first_of, header_bytes, with_rounds, with_aside, price_of, priced_cost, plan_bytes, plan_of}
use Rattle.plan.specs.Writable.{Number, Chained}
use Rattle.plan.specs.Laws.Written.{writable}

module _ (s stops ends vehicles : List ℕ) (n total : ℕ) (ok : Tables s stops ends vehicles n total) (start : ℕ) (from : start ≡ start_in ends n) where
  -- the stops set aside lie within the stops
  pub part : (start ≤ total) × (total ≤ length stops)
  part = (rw from (start_in_lem s stops ends vehicles n total ok n (omega arith)), ok.all)

  length_aside : length (take (total - start) (drop start stops)) ≡ total - start
  length_aside = let p = part in simp (length-take, length-drop) (omega arith)

  pub chained : Chained s (take (total - start) (drop start stops))
  chained =
      let l = length_aside in
      record {
        sheet = ok.sheet.sized;
        row = λ i h. rw (get_or-take (total - start) (drop start stops) i 0 (omega arith), get_or-drop start stops i 0) (ok.row (start + i) (omega arith));
      }

  pub number : (priced : Bool) → Number (priced_cost priced (price_of s price_start (rounds_in stops ends vehicles n 0 0)))
  number true = (writable s ok.sheet).cost (rounds_in stops ends vehicles n 0 0) (rw (length_rounds stops ends vehicles n 0 0) ok.few) (rounds_of_lem s stops ends vehicles n total ok)
  number false = no_nan 0 nought (zero_upto 0)

  pub planned : (priced : Bool) (before blank rounds aside plan : List ℕ) (chain rows : ℕ) (price cost : Float) → length before ≡ plan_length s
      → blank ≡ replicate (length before) 0
      → price ≡ price_of s price_start (rounds_in stops ends vehicles n 0 0)
      → rounds ≡ with_rounds s 0 (rounds_in stops ends vehicles n 0 0) blank
      → chain ≡ first_of (take (total - start) (drop start stops))
      → aside ≡ with_aside s (take (total - start) (drop start stops)) rounds
      → rows ≡ rows_of s
      → cost ≡ priced_cost priced price
      → plan ≡ write aside 0 (header_bytes n chain rows cost)
      → plan ≡ plan_of s (outcome_in stops ends vehicles n total) priced
  unfolding plan_of plan_bytes outcome_in
  planned priced before blank rounds aside plan chain rows price cost l b p r c a w k h =
      rw (h, a, c, w, k, p, r, b, l, from, length_rounds stops ends vehicles n 0 0)
