-- A number as sixteen digits.
use Rattle.std.specs.Prelude.{ℕ, ◌-◌, ◌^◌, false, List, []}
use Rattle.std.specs.Fmt.{digits, format_spec, padded_integral}

-- what `{:016x}` writes: the digits of n in base 16, in lower case, with zeros in front up to sixteen
abbrev pub sixteen_digits : ℕ → List ℕ
sixteen_digits n = padded_integral (format_spec 32 0 4 16 (2 ^ 64 - 1)) false [] (digits 16 false n)
