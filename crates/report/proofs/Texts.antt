-- The text at the front of the buffer, and the bytes that were read of an input. Assumes nothing.
use Rattle.std.proofs.Common.{◌≡◌, ℕ, zero, suc, ◌+◌, ◌-◌, ◌≤◌, ◌<◌, List, [], ◌++◌, None, Some, IfSome, arith, length, take, drop, sym, ap, ◌∙◌, subst, append-nil, refl}
use Rattle.std.proofs.lemmas.List.{length-take-le}
use Rattle.std.proofs.Math.Seq.{take-append_seam, take-append-add}
use Rattle.std.specs.Prelude.{Option, Result, Ok, Err, ⊤, OnOk, OnErr}
use Rattle.std.specs.Result.{MatchResult, IsErrAnd}
use Rattle.std.specs.declared.io.Error.{Error}
use Rattle.std.specs.Io.KnownBytes.{Appends, Consumes, IsAtEnd, Keeps}
use Rattle.listing.specs.Report.{written}
use Rattle.report.specs.declared.Trouble.{Trouble}
use Rattle.report.specs.declared.Trouble.TheVariants.{Reading, Writing}
use Rattle.report.specs.Prints.{Prints}

-- the first bytes of a buffer, as many as the text that was written to it has, are the text
pub text_at_front : (text buffer after : List ℕ) (n : ℕ) → n ≡ length text → after ≡ written text buffer → take n after ≡ text
unfolding written
text_at_front text buffer after n size is =
    ap (take n) is ∙ ap (λ k. take k (text ++ drop (length text) buffer)) size ∙ take-append_seam text (drop (length text) buffer)

none_left : (k : ℕ) (ys : List ℕ) → (0 < k → ys ≡ []) → take k ys ≡ []
none_left zero ys h = refl
none_left (suc k) ys h = ap (take (suc k)) (h (omega arith))

-- what came until the end or until the room was full is the front of what there was
front : (xs ys input : List ℕ) (n : ℕ) → n ≤ length input → xs ≡ take n input ++ ys → (n < length input → ys ≡ []) → take n input ≡ take (length input) xs
front xs ys input n within came end =
    let came' = take n input in
    let k = length input - n in
    let size : length came' ≡ n = length-take-le n input within in
    let all : length input ≡ length came' + k = omega (arith, size) in
    let left : take k ys ≡ [] = none_left k ys (λ h. end (omega arith)) in
    sym (ap (take (length input)) came ∙ ap (λ j. take j (came' ++ ys)) all ∙ take-append-add came' ys k ∙ ap (λ l. came' ++ l) left ∙ append-nil came')

-- what holds of the bytes read holds of the first bytes of what a reader had
pub read_front : (a b : Option (List ℕ)) (m : ℕ) (input : List ℕ) (n : ℕ) (P : List ℕ → Type 0) → length input ≡ m → n ≤ length input → Consumes a b (take n input) → (n < length input → IsAtEnd b) → P (take n input) → IfSome a (λ xs. P (take m xs))
read_front None b m input n P full within came end p = tt
read_front (Some xs) None m input n P full within came end p = absurd came
read_front (Some xs) (Some ys) m input n P full within came end p =
    subst P (front xs ys input n within came end ∙ ap (λ k. take k xs) full) p

-- what stands on the output where the error of writing, if there is one, is said to be that
pub printed : (old new : Option (List ℕ)) (text : List ℕ) (r : Result ⊤ Error) (o : Result ⊤ Trouble)
    → MatchResult r (λ v. o ≡ Ok v) (λ e. IsErrAnd o (λ t. t ≡ Writing e))
    → OnOk r (Appends old new text) → OnErr r ((n : ℕ) × Appends old new (take n text)) → Prints old new text o
printed old new text (Ok v) o e whole part = rw e whole
printed old new text (Err x) (Ok v) e whole part = absurd e
printed old new text (Err x) (Err t) e whole part = rw e part

-- nothing is written where reading failed, and the error is that of reading
pub unread : (a old new : Option (List ℕ)) (text : List ℕ → List ℕ) (r : Result ℕ Error) (m : Result ℕ Trouble) (x : Trouble) (o : Result ⊤ Trouble)
    → MatchResult r (λ v. m ≡ Ok v) (λ e. IsErrAnd m (λ t. t ≡ Reading e)) → m ≡ Err x → IsErrAnd o (λ y. y ≡ x) → Keeps old new → IfSome a (λ bytes. Prints old new (text bytes) o)
unread None old new text r m x o e was is kept = tt
unread (Some bytes) old new text (Ok v) m x o e was is kept = let z : Ok v ≡ Err x = sym e ∙ was in cc
unread (Some bytes) old new text (Err y) m x (Ok v) e was is kept = absurd is
unread (Some bytes) old new text (Err y) (Ok v) x (Err z) e was is kept = absurd e
unread (Some bytes) old new text (Err y) (Err t) x (Err z) e was is kept = let q : x ≡ t = cc in rw (is, q, e) kept

-- a number that was handed on was read
pub number_read : (r : Result ℕ Error) (m : Result ℕ Trouble) (n : ℕ) → MatchResult r (λ v. m ≡ Ok v) (λ e. IsErrAnd m (λ t. t ≡ Reading e)) → m ≡ Ok n → r ≡ Ok n
number_read (Ok v) m n e was = let z : Ok v ≡ Ok n = sym e ∙ was in cc
number_read (Err y) (Ok v) n e was = absurd e
number_read (Err y) (Err t) n e was = cc
