mod Grids
mod Points
mod Fields
mod Packs
mod Numbered
mod Edits
mod Kept
