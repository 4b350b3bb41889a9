pub mod WholeInstants
