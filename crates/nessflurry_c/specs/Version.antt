-- The version that the library reports to a caller (include/nessflurry.h).
use Rattle.std.specs.Prelude.{ℕ}

-- It increases with every change that a caller has to follow.
abbrev pub version : ℕ
version = 3
