pub mod PlanOut
