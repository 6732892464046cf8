pub mod UncutCodes
