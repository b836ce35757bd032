pub mod PreparedTiles
