pub mod DepotLaid
