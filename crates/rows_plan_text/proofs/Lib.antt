pub mod PlanCases
