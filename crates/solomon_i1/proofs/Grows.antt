-- A round that grows in the table of stops: its stops stand first, those that are left after them. Assumes nothing.
use Rattle.std.specs.Prelude.{Some, None}
use mathlib.Core.Path.{◌≡◌, refl, sym, ap, ◌∙◌, subst}
use Prim.Native.Nat.{ℕ, zero, suc, ◌+◌, ◌-◌, ◌≤◌, ◌<◌}
use native.Mathlib.Omega.{arith}
use mathlib.Core.List.{List, [], ◌∷◌, ◌++◌, append_assoc}
use lib.ListN.{length, get_or, take, drop, length-append, length-drop}
use lib.Seq.{take_at, drop_at, drop-cons, take-append-le, take-append-add, drop-append-le, drop-append-add, get_or-append-add}
use lib.Ieee.{Float}
use Rattle.lists.specs.Every.{Every}
use Rattle.lists.specs.Laws.Every.{every_of, every_at, every_drop}
use Rattle.lists.specs.Moved.{without, inserted}
use Rattle.lists.specs.Laws.Moved.{without_length, without_every, inserted_length, inserted_every}
use Rattle.wire.specs.Bytes.{write}
use Rattle.sheet.specs.Accepted.{Accepted}
use Rattle.sheet.specs.Fields.{rows_of}
use Rattle.evaluation.specs.Routed.{Routed}
use Rattle.constructive.specs.Unchecked.{Windowless}
use Rattle.constructive.specs.declared.terms.Terms.{Terms}
use Rattle.insertion.specs.Choice.{Choice}
use Rattle.insertion.specs.Trial.{Unwalked, Joinable}
use Rattle.insertion.proofs.Sliding.{brought}
use Rattle.solomon_i1_judging.specs.Choice.{best_of}
use Rattle.solomon_i1_judging.specs.Laws.Chosen.{Chosen, best_chosen}
use Rattle.solomon_i1.specs.Insertion.{Growth, growing, grown_by, grow, grow_on, route_in, left_in, round_from}
use Rattle.solomon_i1.specs.Laws.Grown.{stays}
use Rattle.solomon_i1.specs.Tabled.{growth_stops}

-- ---- rows of the sheet
abbrev pub Row : List ℕ → ℕ → Type 0
Row s i = i < rows_of s

pub rows_of_lem : (s : List ℕ) (depot : ℕ) (rows : List ℕ) → Routed s depot rows → Every (Row s) rows
rows_of_lem s depot rows r = every_of (Row s) 0 rows r.row

pub routed_of : (s : List ℕ) (depot : ℕ) (rows : List ℕ) → Accepted s → depot < rows_of s → length rows ≤ 101 → Every (Row s) rows → Routed s depot rows
routed_of s depot rows a h few e = record { sheet = a; home = h; few = few; row = λ k l. every_at (Row s) 0 rows k l e }

-- ---- a stop that moves from those left into the round
pub without_behind : (front back : List ℕ) (j : ℕ) → without (length front + j) (front ++ back) ≡ front ++ without j back
without_behind front back j =
    let n : length front + j + 1 ≡ length front + (j + 1) = omega arith in
    rw (take-append-add front back j, n, drop-append-add front back (j + 1), append_assoc front (take j back) (drop (j + 1) back))

inserted_front : (front back : List ℕ) (k x : ℕ) → k ≤ length front → inserted k x (front ++ back) ≡ inserted k x front ++ back
inserted_front front back k x h = rw (take-append-le k front back h, drop-append-le k front back h) (sym (append_assoc (take k front) (x ∷ drop k front) back))

-- what holds of all stops holds of them where they stand then
unwalked_so : (s : List ℕ) (t : Terms) (route left route' left' : List ℕ) → ((P : ℕ → Type 0) → Every P route → Every P left → Every P route' × Every P left') → Unwalked s t route left → Unwalked s t route' left'
unwalked_so s t route left route' left' f u = record {
  hard = u.hard;
  free = u.free;
  round = λ e. (f (Windowless s) (u.round e) (u.unrouted e)).0;
  unrouted = λ e. (f (Windowless s) (u.round e) (u.unrouted e)).1;
}

-- some of the stops left, as all of them
pub joinable_so : (s : List ℕ) (t : Terms) (left left' : List ℕ) → length left' ≤ length left → ((P : ℕ → Type 0) → Every P left → Every P left') → Joinable s t [] left → Joinable s t [] left'
joinable_so s t left left' h f ok = record {
  round = ok.round;
  unrouted = routed_of s t.depot left' ok.unrouted.sheet ok.unrouted.home (omega (arith, ok.unrouted.few)) (f (Row s) (rows_of_lem s t.depot left ok.unrouted));
  room = ok.room;
  unwalked = unwalked_so s t [] left [] left' (λ P r l. (r, f P l)) ok.unwalked;
}

-- ---- what holds at the head of the loop
pub record Growing (s : List ℕ) (t : Terms) (left₀ trial₀ left trial : List ℕ) (end : ℕ) : Type 0 where
  pub sheet : Accepted s
  pub home : t.depot < rows_of s
  pub few : length left₀ ≤ 101
  pub wide : length left₀ ≤ length trial₀
  pub tried : length trial ≡ length trial₀
  pub route : List ℕ
  pub rest : List ℕ
  pub laid : left ≡ route ++ rest
  pub at : end ≡ length route
  pub all : end + length rest ≡ length left₀
  pub routed : Every (Row s) route
  pub unrouted : Every (Row s) rest
  pub unwalked : Unwalked s t route rest
  pub same : round_from s t (get_or left₀ 0 0) (drop 1 left₀) ≡ grow_on s t (length rest) (growing route rest)

pub begins : (s : List ℕ) (t : Terms) (left trial : List ℕ) → Joinable s t [] left → 0 < length left → length left ≤ length trial → Growing s t left trial left trial 1
begins s t left trial ok h l =
    let rows = rows_of_lem s t.depot left ok.unrouted in
    record {
      sheet = ok.unrouted.sheet;
      home = ok.unrouted.home;
      few = ok.unrouted.few;
      wide = l;
      tried = refl;
      route = get_or left 0 0 ∷ [];
      rest = drop 1 left;
      laid = drop-cons left 0 0 h;
      at = refl;
      all = omega (arith, length-drop 1 left);
      routed = (every_at (Row s) 0 left 0 h rows, tt);
      unrouted = every_drop (Row s) 1 left rows;
      unwalked = unwalked_so s t [] left (get_or left 0 0 ∷ []) (drop 1 left) (λ P r l. ((every_at P 0 left 0 h l, tt), every_drop P 1 left l)) ok.unwalked;
      same = refl;
    }

module _ (s : List ℕ) (t : Terms) (left₀ trial₀ left trial : List ℕ) (end : ℕ) (g : Growing s t left₀ trial₀ left trial end) where
  abbrev round : Growth
  round = round_from s t (get_or left₀ 0 0) (drop 1 left₀)

  pub left_long : length left ≡ length left₀
  left_long = ap length g.laid ∙ omega (arith, length-append g.route g.rest, g.at, g.all)

  front : take end left ≡ g.route
  front = rw g.laid (take_at g.route g.rest end (sym g.at))

  back : drop end left ≡ g.rest
  back = rw g.laid (drop_at g.route g.rest end (sym g.at))

  -- the choice is the definition's
  module _ (c : Choice) (e : c ≡ best_of s t (take end left) (drop end left)) where
    chosen : best_of s t g.route g.rest ≡ c
    chosen = sym (rw (front, back) at e)

    -- none can join: the round is grown
    full : (n : ℕ) → c ≡ None → (route_in (grow_on s t n (growing g.route g.rest)) ≡ g.route) × (left_in (grow_on s t n (growing g.route g.rest)) ≡ g.rest)
    unfolding grow_on grow
    full zero f = (refl, refl)
    full (suc n) f = rw (chosen, f, stays s t n g.route g.rest) (refl, refl)

    pub grown_full : c ≡ None → (route_in round ≡ g.route) × (left_in round ≡ g.rest)
    grown_full f = rw g.same (full (length g.rest) f)

    -- a stop joins
    module _ (j k : ℕ) (cost : Float) (f : c ≡ Some (j, k, cost)) where
      told : Chosen s t g.route g.rest (Some (j, k, cost))
      told = subst (Chosen s t g.route g.rest) (chosen ∙ f) (best_chosen s t g.route g.rest)

      inside : j < length g.rest
      inside = told.0

      place : k ≤ length g.route
      place = told.1.within

      pub from_left : end + j < length left
      from_left = omega (arith, inside, g.all, left_long)

      pub to_round : k ≤ end + j
      to_round = omega (arith, place, g.at)

      abbrev stop : ℕ
      stop = get_or g.rest j 0

      stop_at : get_or left (end + j) 0 ≡ stop
      stop_at = rw (g.laid, g.at) (get_or-append-add g.route g.rest j 0)

      goes_so : (left' : List ℕ) → left' ≡ write left k (get_or left (end + j) 0 ∷ take (end + j - k) (drop k left)) → left' ≡ inserted k stop g.route ++ without j g.rest
      goes_so left' p =
          p
          ∙ brought left k (end + j) to_round from_left
          ∙ ap (λ (x : ℕ). inserted k x (without (end + j) left)) stop_at
          ∙ ap (λ (l : List ℕ). inserted k stop (without (end + j) l)) g.laid
          ∙ ap (λ (n : ℕ). inserted k stop (without (n + j) (g.route ++ g.rest))) g.at
          ∙ ap (inserted k stop) (without_behind g.route g.rest j)
          ∙ inserted_front g.route (without j g.rest) k stop place

      grown_on : grow_on s t (length g.rest) (growing g.route g.rest) ≡ grow_on s t (length (without j g.rest)) (growing (inserted k stop g.route) (without j g.rest))
      unfolding grow_on grow
      grown_on =
          let n : length g.rest ≡ suc (length (without j g.rest)) = sym (without_length g.rest j inside) in
          ap (λ (m : ℕ). grow_on s t m (growing g.route g.rest)) n
          ∙ ap (λ (x : Choice). grow_on s t (length (without j g.rest)) (grown_by g.route g.rest x)) (chosen ∙ f)

      pub goes_on : (left' trial' : List ℕ) → left' ≡ write left k (get_or left (end + j) 0 ∷ take (end + j - k) (drop k left)) → length trial' ≡ length trial → Growing s t left₀ trial₀ left' trial' (end + 1)
      goes_on left' trial' p q = record {
        sheet = g.sheet;
        home = g.home;
        few = g.few;
        wide = g.wide;
        tried = q ∙ g.tried;
        route = inserted k stop g.route;
        rest = without j g.rest;
        laid = goes_so left' p;
        at = omega (arith, inserted_length k stop g.route, g.at);
        all = omega (arith, g.all, without_length g.rest j inside);
        routed = inserted_every k stop g.route (Row s) (every_at (Row s) 0 g.rest j inside g.unrouted) g.routed;
        unrouted = without_every (Row s) g.rest j g.unrouted;
        unwalked =
            unwalked_so s t g.route g.rest (inserted k stop g.route) (without j g.rest)
            (λ P r l. (inserted_every k stop g.route P (every_at P 0 g.rest j inside l) r, without_every P g.rest j l)) g.unwalked;
        same = g.same ∙ grown_on;
      }

  -- no stop is left
  pub grown_out : length left₀ ≤ end → (route_in round ≡ g.route) × (left_in round ≡ g.rest)
  unfolding grow_on
  grown_out h = let n : length g.rest ≡ 0 = omega (arith, g.all) in rw (g.same, n) (refl, refl)

  -- where the round is grown
  module _ (told : (route_in round ≡ g.route) × (left_in round ≡ g.rest)) where
    pub ends_at : end ≡ length (route_in round)
    ends_at = rw told.0 g.at

    pub ends_laid : left ≡ growth_stops round
    ends_laid = rw (told.0, told.1) g.laid

-- ---- the seed brought to the front of the stops left
module _ (s : List ℕ) (t : Terms) (left : List ℕ) (seed : ℕ) (h : seed < length left) (left' : List ℕ) (p : left' ≡ write left 0 (get_or left seed 0 ∷ take (seed - 0) (drop 0 left))) where
  seeded : left' ≡ get_or left seed 0 ∷ without seed left
  seeded = p ∙ brought left 0 seed (omega arith) h

  pub opened : round_from s t (get_or left' 0 0) (drop 1 left') ≡ round_from s t (get_or left seed 0) (without seed left)
  opened = ap (λ (l : List ℕ). round_from s t (get_or l 0 0) (drop 1 l)) seeded

  pub opens : Joinable s t [] left → Joinable s t [] left'
  opens ok =
      rw seeded
      (joinable_so s t left (get_or left seed 0 ∷ without seed left) (omega (arith, without_length left seed h)) (λ P l. (every_at P 0 left seed h l, without_every P left seed l)) ok)
