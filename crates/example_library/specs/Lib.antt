pub mod OwnTree
