pub mod Raster
pub mod Picture
pub mod Printed
