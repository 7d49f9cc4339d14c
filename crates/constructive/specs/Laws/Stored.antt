-- The tables of rounds of two parts. Assumes nothing.
use Rattle.std.specs.Prelude.{◌≡◌, refl, ℕ, suc, ◌+◌, zero, List, [], ◌∷◌, ◌++◌, length, get_or}
use Rattle.std.proofs.Common.{ap, ◌∙◌, add_assoc, add-zero, arith, append_assoc, length-append}
use Rattle.lists.specs.Count.{count}
use Rattle.lists.specs.Laws.Once.{count_append}
use Rattle.constructive.specs.Outcome.{Round, chains, rounds_in}
use Rattle.constructive.specs.Stored.{ends_from, vehicles_from, routed_in}

pub chains_aside : (rs : List Round) (aside : List ℕ) → chains rs aside ≡ chains rs [] ++ aside
unfolding chains
chains_aside [] aside = refl
chains_aside (r ∷ rs) aside = rw (chains_aside rs aside, ← append_assoc)

pub chains_append : (rs qs : List Round) (aside : List ℕ) → chains (rs ++ qs) aside ≡ chains rs (chains qs aside)
unfolding chains
chains_append [] qs aside = refl
chains_append (r ∷ rs) qs aside = rw (chains_append rs qs aside)

pub length_routed : (rs : List Round) → length (chains rs []) ≡ routed_in rs
unfolding chains routed_in
length_routed [] = refl
length_routed (r ∷ rs) = simp (length-append, length_routed rs)

pub length_ends : (start : ℕ) (rs : List Round) → length (ends_from start rs) ≡ length rs
unfolding ends_from
length_ends start [] = refl
length_ends start (r ∷ rs) = ap suc (length_ends (start + length r.stops) rs)

pub length_vehicles : (rs : List Round) → length (vehicles_from rs) ≡ length rs
unfolding vehicles_from
length_vehicles [] = refl
length_vehicles (r ∷ rs) = ap suc (length_vehicles rs)

pub routed_append : (rs qs : List Round) → routed_in (rs ++ qs) ≡ routed_in rs + routed_in qs
unfolding routed_in
routed_append [] qs = omega arith
routed_append (r ∷ rs) qs = omega (arith, routed_append rs qs)

pub ends_append : (start : ℕ) (rs qs : List Round) → ends_from start (rs ++ qs) ≡ ends_from start rs ++ ends_from (start + routed_in rs) qs
unfolding ends_from routed_in
ends_append start [] qs = rw (add-zero start)
ends_append start (r ∷ rs) qs = rw (ends_append (start + length r.stops) rs qs, add_assoc start (length r.stops) (routed_in rs))

pub vehicles_append : (rs qs : List Round) → vehicles_from (rs ++ qs) ≡ vehicles_from rs ++ vehicles_from qs
unfolding vehicles_from
vehicles_append [] qs = refl
vehicles_append (r ∷ rs) qs = rw (vehicles_append rs qs)

-- all stops, those set aside too
pub length_chains : (rs : List Round) (aside : List ℕ) → length (chains rs aside) ≡ routed_in rs + length aside
unfolding chains routed_in
length_chains [] aside = omega arith
length_chains (r ∷ rs) aside = let e = length_chains rs aside in length-append r.stops (chains rs aside) ∙ omega arith

-- how many rounds the tables hold
pub length_rounds : (stops ends vehicles : List ℕ) (m start k : ℕ) → length (rounds_in stops ends vehicles m start k) ≡ m
unfolding rounds_in
length_rounds stops ends vehicles zero start k = refl
length_rounds stops ends vehicles (suc m) start k = ap suc (length_rounds stops ends vehicles m (get_or ends k 0) (k + 1))

-- how often a stop stands in all chains
pub count_chains : (x : ℕ) (rs : List Round) (aside : List ℕ) → count x (chains rs aside) ≡ count x (chains rs []) + count x aside
count_chains x rs aside = ap (count x) (chains_aside rs aside) ∙ count_append x (chains rs []) aside
