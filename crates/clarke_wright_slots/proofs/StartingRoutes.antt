-- Each member on a round of its own, or set aside, one after another. Assumes nothing.
use mathlib.Core.Path.{◌≡◌, refl, sym, ap, ◌∙◌}
use Prim.Native.Nat.{ℕ, zero, suc, ◌+◌, ◌*◌, ◌-◌, ◌≤◌, ◌<◌}
use native.Mathlib.Nat.{add-zero, sub-zero}
use native.Mathlib.Numerals.{add-one}
use native.Mathlib.Omega.{arith}
use mathlib.Core.Bool.{Bool, true, false, cond}
use mathlib.Core.List.{List, [], ◌∷◌, ◌++◌, append-nil}
use lib.Dec.{ltb, eqb}
use lib.ListN.{length, get_or, take, drop, set, replicate, length-append, length-drop, length-set, length-replicate, get_or-replicate, get_or-append}
use lib.Seq.{length-take-le, take-suc, take-suc-set, take-set-le, drop-set-add, get_or-set_same, get_or-set_other, get_or-append_seam, append_snoc, split_at, take_all}
use borrow.Author.Tests.{le-ltb, ltb-true, ltb-false, eq-eqb, ne_eqb, eqb-true, eqb-false}
use Rattle.lists.specs.Count.{one, count}
use Rattle.lists.specs.Laws.Once.{count_append}
use Rattle.lists.specs.Every.{Every}
use Rattle.lists.specs.Laws.Every.{every_of}
use Rattle.sheet.specs.Fields.{rows_of}
use Rattle.sheet.specs.Values.{demand_of}
use Rattle.evaluation.specs.Routed.{Routed}
use Rattle.constructive.specs.declared.terms.Terms.{Terms}
use Rattle.constructive.specs.Load.{load_of}
use Rattle.clarke_wright_savings.specs.Savings.{route_at, starts_alone, lone_route, starts_of, slot_of, aside_unless, aside_of}
use Rattle.clarke_wright_savings.specs.Routes.{count_in_routes}
use Rattle.clarke_wright_savings.specs.Laws.Permutation.{starts_keep}
use Rattle.clarke_wright_slots.specs.Laws.HowMany.{starts_many, aside_few}
use Rattle.clarke_wright_slots.specs.Slots.{slot_at, slots_from, slots_in, Roomy, Slotted, RouteStarted}
use Rattle.clarke_wright_slots.specs.Laws.Slots.{slots_alike, slots_more, route_few}

-- ---- the rounds of members of two parts
module _ (s : List ℕ) (t : Terms) where
  starts_append : (xs ys : List ℕ) → starts_of s t (xs ++ ys) ≡ starts_of s t xs ++ starts_of s t ys
  unfolding starts_of
  starts_append [] ys = refl
  starts_append (x ∷ xs) ys = ap (◌∷◌ (lone_route (starts_alone s t x) x)) (starts_append xs ys)

  aside_append : (xs ys : List ℕ) → aside_of s t (xs ++ ys) ≡ aside_of s t xs ++ aside_of s t ys
  unfolding aside_of
  aside_append [] ys = refl
  aside_append (x ∷ xs) ys = go (starts_alone s t x) (aside_append xs ys)
    where
      go : (b : Bool) → aside_of s t (xs ++ ys) ≡ aside_of s t xs ++ aside_of s t ys → aside_unless b x (aside_of s t (xs ++ ys)) ≡ aside_unless b x (aside_of s t xs) ++ aside_of s t ys
      go true e = e
      go false e = ap (◌∷◌ x) e

  length_starts : (rows : List ℕ) → length (starts_of s t rows) ≡ length rows
  unfolding starts_of
  length_starts [] = refl
  length_starts (row ∷ rows) = ap suc (length_starts rows)

  starts_rows : (rows : List ℕ) → Every (λ (i : ℕ). i < rows_of s) rows → Every (Every (λ (i : ℕ). i < rows_of s)) (starts_of s t rows)
  unfolding starts_of
  starts_rows [] e = tt
  starts_rows (row ∷ rows) e = (go (starts_alone s t row), starts_rows rows e.1)
    where
      go : (b : Bool) → Every (λ (i : ℕ). i < rows_of s) (lone_route b row)
      go true = (e.0, tt)
      go false = tt

-- ---- the slot of a row
-- one that has its round now
slot_seated : (row : ℕ) (rs qs : List (List ℕ)) → count_in_routes row rs ≡ 0 → slot_of row (rs ++ ((row ∷ []) ∷ qs)) ≡ length rs
unfolding slot_of count_in_routes count
slot_seated row [] qs z = rw (eq-eqb row row refl)
slot_seated row (r ∷ rs) qs z = rw (le-ltb 0 (count row r) (omega arith)) (ap suc (slot_seated row rs qs (omega arith)))

-- the slot of another row stays
slot_other : (x row : ℕ) (rs qs : List (List ℕ)) → (x ≡ row → ⊥) → slot_of x (rs ++ ((row ∷ []) ∷ qs)) ≡ slot_of x (rs ++ ([] ∷ qs))
unfolding slot_of count
slot_other x row [] qs h = rw (ne_eqb x row h)
slot_other x row (r ∷ rs) qs h = ap (λ (n : ℕ). cond (ltb 0 (count x r)) 0 (suc n)) (slot_other x row rs qs h)

slot_none : (x n : ℕ) → slot_of x (replicate n []) ≡ n
unfolding slot_of count
slot_none x zero = refl
slot_none x (suc n) = ap suc (slot_none x n)

-- ---- the tables with a slot more
-- what stands in the slots before it
slot_kept : (cells lens : List ℕ) (j k row v : ℕ) → j < k → get_or lens j 0 ≤ 101 → slot_at (set cells (101 * k) row) (set lens k v) j ≡ slot_at cells lens j
slot_kept cells lens j k row v h l =
    let m = 101 * k - j * 101 in
    let at : 101 * k ≡ j * 101 + m = omega arith in
    let n = get_or lens j 0 in
    ap (λ (i : ℕ). take i (drop (j * 101) (set cells (101 * k) row))) (get_or-set_other lens k j v 0 (λ e. omega (arith, h, e)))
    ∙ ap (λ (i : ℕ). take n (drop (j * 101) (set cells i row))) at
    ∙ ap (take n) (drop-set-add (j * 101) cells m row)
    ∙ take-set-le n (drop (j * 101) cells) m row (omega arith)

lens_kept : (cells lens : List ℕ) (j k v : ℕ) → j < k → slot_at cells (set lens k v) j ≡ slot_at cells lens j
lens_kept cells lens j k v h = ap (λ (i : ℕ). take i (drop (j * 101) cells)) (get_or-set_other lens k j v 0 (λ e. omega (arith, h, e)))

-- a number for each slot
table_more : (f : List ℕ → ℕ) (routes : List (List ℕ)) (route table : List ℕ) (k : ℕ) → length routes ≡ k → k < length table → ((j : ℕ) → j < k → get_or table j 0 ≡ f (route_at routes j))
    → (j : ℕ) → j < k + 1 → get_or (set table k (f route)) j 0 ≡ f (route_at (routes ++ (route ∷ [])) j)
table_more f routes route table k e l g j h = go (ltb j k) refl
  where
    go : (b : Bool) → ltb j k ≡ b → get_or (set table k (f route)) j 0 ≡ f (route_at (routes ++ (route ∷ [])) j)
    go true u =
        let i = ltb-true j k u in
        get_or-set_other table k j (f route) 0 (λ q. omega (arith, i, q)) ∙ g j i ∙ ap f (sym (get_or-append routes (route ∷ []) [] j (omega (arith, i, e))))
    go false u =
        let i : j ≡ k = omega (arith, h, ltb-false j k u) in
        ap (λ (n : ℕ). get_or (set table k (f route)) n 0) i
        ∙ get_or-set_same table k (f route) 0 l
        ∙ ap f (sym (get_or-append_seam routes route [] []) ∙ ap (route_at (routes ++ (route ∷ []))) (e ∙ sym i))

-- ---- the members so far
pub record StartingRoutes (s : List ℕ) (t : Terms) (members cells lens loads slots : List ℕ) (k : ℕ) : Type 0 where
  pub same : slots_in k cells lens ≡ starts_of s t (take k members)
  pub long : (j : ℕ) → j < k → get_or lens j 0 ≡ length (route_at (starts_of s t (take k members)) j)
  pub load : (j : ℕ) → j < k → get_or loads j 0 ≡ load_of s (route_at (starts_of s t (take k members)) j)
  pub slot : (x : ℕ) → x < 101 → get_or slots x 0 ≡ slot_of x (starts_of s t (take k members) ++ replicate (length members - k) [])

module _ (s : List ℕ) (t : Terms) (members : List ℕ) (k : ℕ) (here : k < length members) where
  abbrev row : ℕ
  row = get_or members k 0

  abbrev rows : List ℕ
  rows = take k members

  abbrev spare : List (List ℕ)
  spare = replicate (length members - (k + 1)) []

  more : take (k + 1) members ≡ rows ++ (row ∷ [])
  more = ap (λ (n : ℕ). take n members) (add-one k) ∙ take-suc members k 0 here

  starts_more : starts_of s t (take (k + 1) members) ≡ starts_of s t rows ++ (lone_route (starts_alone s t row) row ∷ [])
  unfolding starts_of
  starts_more = ap (starts_of s t) more ∙ starts_append s t rows (row ∷ [])

  aside_more : aside_of s t (take (k + 1) members) ≡ aside_of s t rows ++ aside_unless (starts_alone s t row) row []
  unfolding aside_of
  aside_more = ap (aside_of s t) more ∙ aside_append s t rows (row ∷ [])

  long_rows : length rows ≡ k
  long_rows = length-take-le k members (omega arith)

  long_starts : length (starts_of s t rows) ≡ k
  long_starts = length_starts s t rows ∙ long_rows

  -- a slot that is left empty stands for the next
  spare_more : replicate (length members - k) [] ≡ [] ∷ spare
  spare_more = ap (λ (n : ℕ). replicate n []) (let e : length members - k ≡ suc (length members - (k + 1)) = omega arith in e)

  -- a row that comes once was not met before
  new : ((x : ℕ) → count x members ≤ 1) → count_in_routes row (starts_of s t rows) ≡ 0
  unfolding count
  new once =
      let a = ap (count row) (split_at members k 0 here) in
      let b = count_append row rows (row ∷ drop (suc k) members) in
      let c : one (eqb row row) ≡ 1 = rw (eq-eqb row row refl) in
      let d = starts_keep s t row rows in
      omega (arith, a, b, c, d, once row)

  module _ (cells lens loads slots : List ℕ) (g : StartingRoutes s t members cells lens loads slots k) (measured : k < length lens) (loaded : k < length loads) where
    -- a stop that starts a round, with its slot
    seating_more : (b : Bool) → starts_alone s t row ≡ b → (cells' slots' : List ℕ)
        → ((j : ℕ) → j < k → slot_at cells' (set lens k (length (lone_route b row))) j ≡ slot_at cells lens j)
        → slot_at cells' (set lens k (length (lone_route b row))) k ≡ lone_route b row
        → ((x : ℕ) → x < 101 → get_or slots' x 0 ≡ slot_of x (starts_of s t rows ++ (lone_route b row ∷ spare)))
        → StartingRoutes s t members cells' (set lens k (length (lone_route b row))) (set loads k (load_of s (lone_route b row))) slots' (k + 1)
    seating_more b e cells' slots' alike own slotted =
        let lens' = set lens k (length (lone_route b row)) in
        let starts : starts_of s t (take (k + 1) members) ≡ starts_of s t rows ++ (lone_route b row ∷ []) = starts_more ∙ ap (λ (c : Bool). starts_of s t rows ++ (lone_route c row ∷ [])) e in
        record {
          same = slots_more k cells' lens' ∙ ap (λ (l : List (List ℕ)). l ++ (slot_at cells' lens' k ∷ [])) (slots_alike k cells lens cells' lens' alike ∙ g.same) ∙ ap (λ (r : List ℕ). starts_of s t rows ++ (r ∷ [])) own ∙ sym starts;
          long = rw starts (table_more length (starts_of s t rows) (lone_route b row) lens k long_starts measured g.long);
          load = rw starts (table_more (load_of s) (starts_of s t rows) (lone_route b row) loads k long_starts loaded g.load);
          slot = λ x h. slotted x h ∙ ap (slot_of x) (sym (append_snoc (starts_of s t rows) (lone_route b row) spare) ∙ ap (λ (l : List (List ℕ)). l ++ spare) (sym starts));
        }

-- ---- the loop over the members
pub record Starting (s : List ℕ) (t : Terms) (members aside₀ : List ℕ) (n : ℕ) (cells lens loads slots aside : List ℕ) (end k : ℕ) : Type 0 where
  pub routed : Routed s t.depot members
  pub once : (x : ℕ) → count x members ≤ 1
  pub all : n ≡ length members
  pub within : k ≤ n
  pub room : Roomy n cells lens loads slots
  pub spares : 101 ≤ length aside
  pub aside_long : length aside ≡ length aside₀
  pub so_far : StartingRoutes s t members cells lens loads slots k
  pub many : end ≡ length (aside_of s t (take k members))
  pub left : take end aside ≡ aside_of s t (take k members)

pub begins : (s : List ℕ) (t : Terms) (members cells lens loads slots aside filled : List ℕ) → Routed s t.depot members → ((x : ℕ) → count x members ≤ 1) → Roomy (length members) cells lens loads slots → 101 ≤ length aside
    → filled ≡ replicate (length slots) (length members)
    → Starting s t members aside (length members) cells lens loads filled aside 0 0
unfolding starts_of aside_of slots_from
begins s t members cells lens loads slots aside filled routed once room spares e =
    let long : length filled ≡ length slots = ap length e ∙ length-replicate (length slots) (length members) in
    record {
      routed = routed;
      once = once;
      all = refl;
      within = omega arith;
      room = record { most = room.most; celled = room.celled; measured = room.measured; loaded = room.loaded; known = omega (arith, long, room.known) };
      spares = spares;
      aside_long = refl;
      so_far = record {
        same = refl;
        long = λ j h. absurd (omega (arith, h));
        load = λ j h. absurd (omega (arith, h));
        slot = λ x h. ap (λ (l : List ℕ). get_or l x 0) e ∙ get_or-replicate (length slots) x (length members) 0 (omega (arith, h, room.known)) ∙ sym (slot_none x (length members)) ∙ ap (λ (n : ℕ). slot_of x (replicate n [])) (sym (sub-zero (length members)));
      };
      many = refl;
      left = refl;
    }

module _ {s : List ℕ} {t : Terms} {members aside₀ : List ℕ} {n : ℕ} {cells lens loads slots aside : List ℕ} {end k : ℕ}
    (g : Starting s t members aside₀ n cells lens loads slots aside end k) where
  -- no more stops are set aside than were met
  pub few : end ≤ k
  few = let l : length (take k members) ≡ k = length-take-le k members (omega (arith, g.all, g.within)) in omega (arith, aside_few s t (take k members), l, g.many)

  module _ (going : k < n) where
    here : k < length members
    here = omega (arith, g.all)

    abbrev newcomer : ℕ
    newcomer = get_or members k 0

    abbrev met : List ℕ
    met = take k members

    abbrev others : List (List ℕ)
    others = replicate (length members - (k + 1)) []

    measured : k < length lens
    measured = omega (arith, g.room.measured, g.room.most)

    loaded : k < length loads
    loaded = omega (arith, g.room.loaded, g.room.most)

    -- a round has one stop at most, so far
    short : (j : ℕ) → j < k → get_or lens j 0 ≤ 101
    short j h = omega (arith, g.so_far.long j h, route_few (starts_of s t met) j, starts_many s t met, long_rows s t members k here, g.room.most)

    pub row_known : get_or members k 0 < rows_of s
    row_known = g.routed.row k here

    -- the stop makes a round alone
    module _ (alone : starts_alone s t (get_or members k 0) ≡ true) where
      seated_slot : slot_at (set cells (101 * k) newcomer) (set lens k 1) k ≡ newcomer ∷ []
      seated_slot =
          let at : 101 * k ≡ k * 101 + 0 = omega arith in
          ap (λ (n : ℕ). take n (drop (k * 101) (set cells (101 * k) newcomer))) (get_or-set_same lens k 1 0 measured)
          ∙ ap (λ (i : ℕ). take 1 (drop (k * 101) (set cells i newcomer))) at
          ∙ ap (take 1) (drop-set-add (k * 101) cells 0 newcomer)
          ∙ take-suc-set (drop (k * 101) cells) 0 newcomer (omega (arith, length-drop (k * 101) cells, g.room.celled, g.room.most))

      seated_row : (x : ℕ) → x < 101 → get_or (set slots newcomer k) x 0 ≡ slot_of x (starts_of s t met ++ ((newcomer ∷ []) ∷ others))
      seated_row x h = go (eqb x newcomer) refl
        where
          go : (b : Bool) → eqb x newcomer ≡ b → get_or (set slots newcomer k) x 0 ≡ slot_of x (starts_of s t met ++ ((newcomer ∷ []) ∷ others))
          go true u =
              ap (λ (y : ℕ). get_or (set slots newcomer k) y 0) (eqb-true x newcomer u)
              ∙ get_or-set_same slots newcomer k 0 (omega (arith, row_known, g.routed.sheet.sized.rows, g.room.known))
              ∙ sym (slot_seated newcomer (starts_of s t met) others (new s t members k here g.once) ∙ long_starts s t members k here)
              ∙ ap (λ (y : ℕ). slot_of y (starts_of s t met ++ ((newcomer ∷ []) ∷ others))) (sym (eqb-true x newcomer u))
          go false u =
              let other = eqb-false x newcomer u in
              get_or-set_other slots newcomer x k 0 other
              ∙ g.so_far.slot x h
              ∙ ap (λ (l : List (List ℕ)). slot_of x (starts_of s t met ++ l)) (spare_more s t members k here)
              ∙ sym (slot_other x newcomer (starts_of s t met) others other)

      seats_so : Starting s t members aside₀ n (set cells (101 * k) newcomer) (set lens k 1) (set loads k (load_of s (newcomer ∷ []))) (set slots newcomer k) aside end (k + 1)
      seats_so =
          let same : aside_of s t (take (k + 1) members) ≡ aside_of s t met = aside_more s t members k here ∙ ap (λ (b : Bool). aside_of s t met ++ aside_unless b newcomer []) alone ∙ append-nil (aside_of s t met) in
          record {
            routed = g.routed;
            once = g.once;
            all = g.all;
            within = omega arith;
            room = record {
              most = g.room.most;
              celled = omega (arith, length-set cells (101 * k) newcomer, g.room.celled);
              measured = omega (arith, length-set lens k 1, g.room.measured);
              loaded = omega (arith, length-set loads k (load_of s (newcomer ∷ [])), g.room.loaded);
              known = omega (arith, length-set slots newcomer k, g.room.known);
            };
            spares = g.spares;
            aside_long = g.aside_long;
            so_far =
                seating_more s t members k here cells lens loads slots g.so_far measured loaded true alone (set cells (101 * k) newcomer) (set slots newcomer k)
                (λ j h. slot_kept cells lens j k newcomer 1 h (short j h)) seated_slot seated_row;
            many = g.many ∙ ap length (sym same);
            left = g.left ∙ sym same;
          }

      pub seats : (cells' lens' loads' slots' : List ℕ) → RouteStarted s (get_or members k 0) k cells lens loads slots cells' lens' loads' slots'
          → Starting s t members aside₀ n cells' lens' loads' slots' aside end (k + 1)
      unfolding load_of
      seats cells' lens' loads' slots' u =
          let load : demand_of s newcomer ≡ load_of s (newcomer ∷ []) = sym (add-zero (demand_of s newcomer)) in
          rw (u.celled, u.measured, u.loaded, u.known, load) seats_so

    -- the stop cannot go alone, and is set aside
    pub sets_aside : starts_alone s t (get_or members k 0) ≡ false
        → Starting s t members aside₀ n cells (set lens k 0) (set loads k 0) slots (set aside end (get_or members k 0)) (end + 1) (k + 1)
    unfolding load_of
    sets_aside alone =
        let so : aside_of s t (take (k + 1) members) ≡ aside_of s t met ++ (newcomer ∷ []) = aside_more s t members k here ∙ ap (λ (b : Bool). aside_of s t met ++ aside_unless b newcomer []) alone in
        record {
          routed = g.routed;
          once = g.once;
          all = g.all;
          within = omega arith;
          room = record {
            most = g.room.most;
            celled = g.room.celled;
            measured = omega (arith, length-set lens k 0, g.room.measured);
            loaded = omega (arith, length-set loads k 0, g.room.loaded);
            known = g.room.known;
          };
          spares = omega (arith, length-set aside end newcomer, g.spares);
          aside_long = length-set aside end newcomer ∙ g.aside_long;
          so_far =
              seating_more s t members k here cells lens loads slots g.so_far measured loaded false alone cells slots
              (λ j h. lens_kept cells lens j k 0 h) (ap (λ (n : ℕ). take n (drop (k * 101) cells)) (get_or-set_same lens k 0 0 measured))
              (λ x h. g.so_far.slot x h ∙ ap (λ (l : List (List ℕ)). slot_of x (starts_of s t met ++ l)) (spare_more s t members k here));
          many = omega (arith, g.many, ap length so, length-append (aside_of s t met) (newcomer ∷ []));
          left =
              ap (λ (m : ℕ). take m (set aside end newcomer)) (add-one end)
              ∙ take-suc-set aside end newcomer (omega (arith, few, g.spares, g.room.most))
              ∙ ap (λ (l : List ℕ). l ++ (newcomer ∷ [])) g.left
              ∙ sym so;
        }

  module _ (over : n ≤ k) where
    done : take k members ≡ members
    done = take_all k members (omega (arith, g.all))

    through : k ≡ length members
    through = omega (arith, g.all, g.within)

    pub ends_same : slots_in (length members) cells lens ≡ starts_of s t members
    ends_same = ap (λ (m : ℕ). slots_in m cells lens) (sym through) ∙ g.so_far.same ∙ ap (starts_of s t) done

    pub ends_slotted : Slotted s (length members) cells lens loads slots
    ends_slotted = record {
      room = record { most = g.routed.few; celled = omega (arith, g.all, g.room.celled); measured = g.room.measured; loaded = g.room.loaded; known = g.room.known };
      routes = rw ends_same (record {
        sheet = g.routed.sheet;
        few = omega (arith, starts_many s t members, g.routed.few);
        once = λ x. omega (arith, starts_keep s t x members, g.once x);
        rows = starts_rows s t members (every_of (λ (i : ℕ). i < rows_of s) 0 members g.routed.row);
      });
      long = rw ends_same (λ j h. g.so_far.long j (omega (arith, through, h)) ∙ ap (λ (l : List ℕ). length (route_at (starts_of s t l) j)) done);
      load = rw ends_same (λ j h. g.so_far.load j (omega (arith, through, h)) ∙ ap (λ (l : List ℕ). load_of s (route_at (starts_of s t l) j)) done);
      slot = rw ends_same (λ x h.
          g.so_far.slot x h
          ∙ ap (λ (m : ℕ). slot_of x (starts_of s t (take k members) ++ replicate m [])) (let z : length members - k ≡ 0 = omega (arith, through) in z)
          ∙ ap (slot_of x) (append-nil (starts_of s t (take k members)) ∙ ap (starts_of s t) done));
    }
