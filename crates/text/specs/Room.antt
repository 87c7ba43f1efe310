-- Text at a place of the room that is lent for it. Assumes nothing.
use Rattle.std.specs.Prelude.{◌≡◌, List, ℕ, ◌+◌, length}
use Rattle.base.specs.Memory.{written}

-- the text s stands at place `at` of the room, r is the place after it, and every other byte stays
pub record Put (s room : List ℕ) (at : ℕ) (room' : List ℕ) (r : ℕ) : Type 0 where
  pub there : room' ≡ written room at s
  pub next : r ≡ at + length s
