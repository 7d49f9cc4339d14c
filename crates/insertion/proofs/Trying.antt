-- The round on trial: what it holds once it is laid out, written over and slid. Assumes nothing.
use mathlib.Core.Path.{◌≡◌, sym, ap, ◌∙◌, subst}
use Prim.Native.Nat.{ℕ, suc, ◌+◌, ◌≤◌, ◌<◌}
use native.Mathlib.Omega.{arith}
use mathlib.Core.List.{List, [], ◌∷◌, ◌++◌}
use lib.ListN.{length, get_or, set, take, drop, take-append-drop}
use lib.Seq.{length-take-le, take-append-le, take-take, take_at, get_or_at, set_at, drop-append-add}
use Rattle.lists.specs.Every.{Every}
use Rattle.lists.specs.Laws.Every.{every_of, every_at}
use Rattle.lists.specs.Moved.{without, inserted}
use Rattle.lists.specs.Laws.Moved.{inserted_length, inserted_every}
use Rattle.sheet.specs.Fields.{rows_of}
use Rattle.evaluation.specs.Routed.{Routed}
use Rattle.constructive.specs.declared.terms.Terms.{Terms}
use Rattle.insertion.specs.Trial.{Trial, Joinable}

module _ (route : List ℕ) (row at : ℕ) (trial : List ℕ) (g : Trial route row at trial) where
  front : length (take at route) ≡ at
  front = length-take-le at route g.place

  pub trial_long : length trial ≡ suc (length route)
  trial_long = ap length g.holds ∙ inserted_length at row route

  stop_there : get_or trial at 0 ≡ row
  stop_there = ap (λ (l : List ℕ). get_or l at 0) g.holds ∙ get_or_at (take at route) row (drop at route) 0 at front

  others : without at trial ≡ route
  others =
      let l = inserted at row route in
      let after : drop (at + 1) l ≡ drop at route = ap (λ (n : ℕ). drop (n + 1) l) (sym front) ∙ drop-append-add (take at route) (row ∷ drop at route) 1 in
      ap (without at) g.holds
      ∙ ap (λ (r : List ℕ). take at l ++ r) after
      ∙ ap (λ (r : List ℕ). r ++ drop at route) (take_at (take at route) (row ∷ drop at route) at front)
      ∙ take-append-drop at route

  -- another stop at the same place
  pub written : (x : ℕ) → Trial route x at (set trial at x)
  written x = record {
    place = g.place;
    holds = ap (λ (l : List ℕ). set l at x) g.holds ∙ set_at (take at route) row (drop at route) x at front;
  }

  -- the same stop at another place
  pub slides : (k : ℕ) (trial' : List ℕ) → k ≤ length route → trial' ≡ inserted k (get_or trial at 0) (without at trial) → Trial route row k trial'
  slides k trial' h e = record {
    place = h;
    holds = e ∙ ap (λ (x : ℕ). inserted k x (without at trial)) stop_there ∙ ap (inserted k row) others;
  }

-- ---- the round and the round with the stop in it
module _ (route : List ℕ) (row k : ℕ) (trial : List ℕ) (g : Trial route row k trial) where
  pub front_alike : (a : ℕ) → a ≤ k → take a trial ≡ take a route
  front_alike a h =
      ap (take a) g.holds
      ∙ take-append-le a (take k route) (row ∷ drop k route) (rw (length-take-le k route g.place) h)
      ∙ take-take a k route h

  pub trial_grown : length route ≤ length trial
  trial_grown = omega (arith, trial_long route row k trial g)

-- ---- a round that may be walked
module _ (s : List ℕ) (t : Terms) (route : List ℕ) (row : ℕ) (ok : Joinable s t route (row ∷ [])) where
  pub joins : row < rows_of s
  joins = ok.unrouted.row 0 (omega arith)

  pub routed : (at : ℕ) (trial : List ℕ) → Trial route row at trial → Routed s t.depot trial
  routed at trial g =
      let rows = inserted_every at row route (λ (i : ℕ). i < rows_of s) joins (every_of (λ (i : ℕ). i < rows_of s) 0 route ok.round.row) in
      record {
        sheet = ok.round.sheet;
        home = ok.round.home;
        few = omega (arith, trial_long route row at trial g, ok.room);
        row = λ k h. every_at (λ (i : ℕ). i < rows_of s) 0 trial k h (subst (Every (λ (i : ℕ). i < rows_of s)) (sym g.holds) rows);
      }
