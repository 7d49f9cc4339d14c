-- A customer in range, clause by clause. Assumes nothing.
use Rattle.std.specs.Prelude.{◌≡◌, refl, ℕ, ◌≤◌, ◌&&◌, List, ◌∷◌, T, leb, ℤ, pos, negsuc, nat_abs}
use Rattle.std.proofs.Common.{leb→le}
use Rattle.std.specs.Float.{binary64}
use Rattle.std.specs.Float.Ieee.{of_int}
use Rattle.std.specs.Float.Ieee.Fits.{and_l, and_r}
use Rattle.sheet.specs.Ranges.{coordinate, demand}
use Rattle.solomon_text.specs.Numbers.{is_up_to}
use Rattle.solomon_import.specs.Instance.{Customer}
use Rattle.solomon_import.specs.Import.{amount_range, window_range, customer_range, customers_range, whole_of}

pub record Ranged (c : Customer) : Type 0 where
  pub x : T (coordinate c.x)
  pub y : T (coordinate c.y)
  pub demanded : T (demand c.demand)
  pub ready : T (amount_range c.ready)
  pub due : T (amount_range c.due)
  pub ordered : nat_abs c.ready ≤ nat_abs c.due
  pub service : T (amount_range c.service)

pub ranged : (c : Customer) → T (customer_range c) → Ranged c
unfolding customer_range window_range
ranged c h =
    let X = coordinate c.x in
    let Y = coordinate c.y in
    let D = demand c.demand in
    let R = amount_range c.ready in
    let U = amount_range c.due in
    let O = leb (nat_abs c.ready) (nat_abs c.due) in
    let S = amount_range c.service in
    let h1 : T (Y && (D && (R && (U && O) && S))) = and_r X (Y && (D && (R && (U && O) && S))) h in
    let h2 : T (D && (R && (U && O) && S)) = and_r Y (D && (R && (U && O) && S)) h1 in
    let h3 : T (R && (U && O) && S) = and_r D (R && (U && O) && S) h2 in
    let w : T (R && (U && O)) = and_l (R && (U && O)) S h3 in
    let w1 : T (U && O) = and_r R (U && O) w in
    record {
      x = and_l X (Y && (D && (R && (U && O) && S))) h;
      y = and_l Y (D && (R && (U && O) && S)) h1;
      demanded = and_l D (R && (U && O) && S) h2;
      ready = and_l R (U && O) w;
      due = and_l U O w1;
      ordered = leb→le (nat_abs c.ready) (nat_abs c.due) (and_r U O w1);
      service = and_r (R && (U && O)) S h3;
    }

pub first_ranged : (c : Customer) (cs : List Customer) → T (customers_range (c ∷ cs)) → T (customer_range c)
unfolding customers_range
first_ranged c cs h = and_l (customer_range c) (customers_range cs) h

pub rest_ranged : (c : Customer) (cs : List Customer) → T (customers_range (c ∷ cs)) → T (customers_range cs)
unfolding customers_range
rest_ranged c cs h = and_r (customer_range c) (customers_range cs) h

-- ---- one number
pub up_to_size : (most : ℕ) (z : ℤ) → T (is_up_to most z) → nat_abs z ≤ most
up_to_size most (pos n) h = leb→le n most h
up_to_size most (negsuc n) h = absurd h

pub coordinate_size : (z : ℤ) → T (coordinate z) → nat_abs z ≤ 1000000
unfolding coordinate
coordinate_size z h = leb→le (nat_abs z) 1000000 h

pub demand_size : (z : ℤ) → T (demand z) → nat_abs z ≤ 1000000
unfolding demand
demand_size (pos n) h = leb→le n 1000000 h
demand_size (negsuc n) h = absurd h

pub up_to_whole : (most : ℕ) (z : ℤ) → T (is_up_to most z) → of_int binary64 z ≡ whole_of z
unfolding of_int
up_to_whole most (pos n) h = refl
up_to_whole most (negsuc n) h = absurd h
