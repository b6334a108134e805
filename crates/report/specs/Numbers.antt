-- How numbers are written.
use Rattle.std.specs.Prelude.{ℕ, zero, suc, ◌+◌, ◌-◌, ◌*◌, ◌/◌, ◌%◌, min, List, ◌++◌, length, replicate, decimal, codes, if◌then◌else◌, nat_lt}
use Rattle.market.specs.Limits.{dollar}

-- the digits of a count, with a comma before each three of them but at the front; at most the column of 14
abbrev pub grouped_width : ℕ → ℕ
grouped_width n = min 14 (length (decimal n) + (length (decimal n) - 1) / 3)

-- at least so many digits, with zeros at the front
abbrev pub zero_filled : ℕ → ℕ → List ℕ
zero_filled width n = replicate (width - length (decimal n)) 48 ++ decimal n

-- in at most so many groups of three digits besides the first, with a comma before each of them
abbrev pub groups : ℕ → ℕ → List ℕ
groups zero n = decimal n
groups (suc more) n = if nat_lt n 1000 then decimal n else groups more (n / 1000) ++ (codes "," ++ zero_filled 3 (n % 1000))

-- a count; from a thousand billions on its first group has more than three digits
abbrev pub grouped_text : ℕ → List ℕ
grouped_text n = groups 3 n

-- a count at the right end of a column
abbrev pub column_text : ℕ → ℕ → List ℕ
column_text width n = replicate (width - grouped_width n) 32 ++ grouped_text n

-- dollars, and five digits of a dollar
abbrev pub dollars_text : ℕ → List ℕ
dollars_text points = codes "$" ++ (decimal (points / dollar) ++ (codes "." ++ zero_filled 5 (points % dollar * 5)))
