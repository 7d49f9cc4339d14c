pub mod Refusals
pub mod LimitRefusals
pub mod Table
pub mod Bills
pub mod Deals
pub mod WrongPlans
pub mod Exact
pub mod Laws
