-- The savings in the tables that are lent: from where, to where, what is saved, and their places.
use Rattle.std.specs.Prelude.{◌≡◌, ℕ, ◌+◌, ◌≤◌, List, ◌++◌, map, length, take, Float}
use Rattle.clarke_wright_savings.specs.Savings.{Saving, values_of, numbered}

abbrev pub froms_of : List Saving → List ℕ
froms_of savings = map (λ (x : Saving). x.from) savings

abbrev pub tos_of : List Saving → List ℕ
tos_of savings = map (λ (x : Saving). x.to) savings

-- room up to a place
pub record Space (from to : List ℕ) (values : List Float) (entries : List ℕ) (end : ℕ) : Type 0 where
  pub starts : end ≤ length from
  pub ends : end ≤ length to
  pub saved : end ≤ length values
  pub placed : end ≤ length entries

-- the tables before, how far they were filled, the savings that are added, the tables after
pub record SavingsPushed (from to : List ℕ) (values : List Float) (entries : List ℕ) (at : ℕ) (savings : List Saving) (from' to' : List ℕ) (values' : List Float) (entries' : List ℕ) : Type 0 where
  pub starts : take (at + length savings) from' ≡ take at from ++ froms_of savings
  pub ends : take (at + length savings) to' ≡ take at to ++ tos_of savings
  pub saved : take (at + length savings) values' ≡ take at values ++ values_of savings
  pub placed : take (at + length savings) entries' ≡ take at entries ++ numbered (length savings) at

-- tables that are as long as they were (a clause: of a slice in a struct that is lent a proof knows no length once a call took it)
pub record SavingsAsLong (from to : List ℕ) (values : List Float) (entries from' to' : List ℕ) (values' : List Float) (entries' : List ℕ) : Type 0 where
  pub starts : length from' ≡ length from
  pub ends : length to' ≡ length to
  pub saved : length values' ≡ length values
  pub placed : length entries' ≡ length entries

-- tables whose front holds these savings
pub record Listed (savings : List Saving) (from to : List ℕ) (values : List Float) : Type 0 where
  pub starts : take (length savings) from ≡ froms_of savings
  pub ends : take (length savings) to ≡ tos_of savings
  pub saved : take (length savings) values ≡ values_of savings
