-- What a number field of a sheet says (SPECIFICATION, "Sheet"): right-justified with spaces, without leading
-- zeros, a minus only before a number that is not 0; at most nine digits.
-- Assumes nothing.
use Rattle.std.specs.Prelude.{ℕ, ◌+◌, ◌-◌, ◌*◌, List, [], ◌∷◌, Bool, true, false, not, cond, ◌&&◌, ltb, leb, eqb, ℤ, pos, negsuc, neg_ℤ, Option, Some, None, option_and_then}

-- what the bytes read so far are
pub data State : Type 0 where
  -- spaces
  blank : State
  -- spaces and a minus
  signed : State
  -- spaces, a minus or none, and the digits of a number
  digits : Bool → ℕ → State
  -- the beginning of no number
  wrong : State

abbrev pub is_digit : ℕ → Bool
is_digit b = leb 48 b && leb b 57

-- the first digit, not 0 behind a minus
abbrev pub first_digit : Bool → ℕ → State
first_digit minus b = cond (is_digit b && not (minus && eqb b 48)) (digits minus (b - 48)) wrong

-- a digit behind those of n: none behind a leading 0, and none behind nine digits
abbrev pub next_digit : Bool → ℕ → ℕ → State
next_digit minus n b = cond (is_digit b && not (eqb n 0) && ltb n 100000000) (digits minus (n * 10 + (b - 48))) wrong

-- one byte more
abbrev pub step : State → ℕ → State
step blank b = cond (eqb b 32) blank (cond (eqb b 45) signed (first_digit false b))
step signed b = first_digit true b
step (digits minus n) b = next_digit minus n b
step wrong b = wrong

-- all bytes
unfoldable pub scan : State → List ℕ → State
scan s [] = s
scan s (b ∷ bs) = scan (step s b) bs

-- what the field says: a number, or none
abbrev pub said : State → Option ℤ
said blank = None
said signed = None
said (digits false n) = Some (pos n)
said (digits true n) = Some (neg_ℤ (pos n))
said wrong = None

unfoldable pub parse : List ℕ → Option ℤ
parse bytes = said (scan blank bytes)

-- a number without a minus
abbrev pub count_of : ℤ → Option ℕ
count_of (pos n) = Some n
count_of (negsuc n) = None

unfoldable pub count_in : List ℕ → Option ℕ
count_in bytes = option_and_then count_of (parse bytes)
