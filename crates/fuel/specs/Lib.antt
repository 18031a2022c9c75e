pub mod FromFuel
