-- The laws of what is said: by the arguments and by the files.
pub mod Arguments
pub mod Program
