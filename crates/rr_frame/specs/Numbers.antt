-- Numbers as bytes.
use Rattle.std.specs.Prelude.{ℕ, List}
use Rattle.byteorder.specs.Endian.{big_bytes, big_number}

-- a number as n bytes, the highest first
unfoldable pub number_bytes : ℕ → ℕ → List ℕ
number_bytes n x = big_bytes n x

-- the number in the first n bytes, the highest first
unfoldable pub number_in : ℕ → List ℕ → ℕ
number_in n bytes = big_number n bytes
