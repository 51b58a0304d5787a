pub mod SteadyLines
