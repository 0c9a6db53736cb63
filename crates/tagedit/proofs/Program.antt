-- The row has one byte more than an input may have. So what does not fit into the row does not change the answer.
-- Assumes nothing.
use Rattle.std.proofs.Common.{ℕ, ◌≡◌, ◌∙◌, List, ap, arith, false, leb, leb-false, leb-true, length, length-take-le, subst, take, take_all}
use Rattle.std.specs.Io.KnownBytes.{Appends}
use Rattle.std.specs.Prelude.{Err, IfSome, None, Ok, OnOk, Option, Result, Some}
use borrow.Author.Tests.{lt-leb}
use Rattle.lent.proofs.Filled.{over_front}
use Rattle.lent.proofs.Tests.{by-test}
use Rattle.lent.specs.Filled.{over}
use Rattle.transcript.specs.Transcript.{transcript_of}

-- two inputs that are too long get one answer
long_alike : (xs ys : List ℕ) → leb (length xs) 65536 ≡ false → leb (length ys) 65536 ≡ false → transcript_of xs ≡ transcript_of ys
unfolding transcript_of
long_alike xs ys p q = rw (p, q)

front_enough : (k : ℕ) (xs : List ℕ) → 65537 ≡ k → transcript_of (take k xs) ≡ transcript_of xs
front_enough k xs e =
    by-test (leb (length xs) 65536)
    (λ t. ap transcript_of (take_all k xs (omega (arith, leb-true (length xs) 65536 t))))
    (λ t.
    let n : length (take k xs) ≡ k = length-take-le k xs (omega (arith, leb-false (length xs) 65536 t)) in
    let past : leb (length (take k xs)) 65536 ≡ false = lt-leb _ _ (omega arith) in
    long_alike (take k xs) xs past t)

-- what is printed: the whole output for all that was there to be read
pub prints : {T E : Type 0} (r : Result T E) (known before after : Option (List ℕ)) (k : ℕ) (front out out' : List ℕ) (said : ℕ) → 65537 ≡ k
    → IfSome known (λ xs. front ≡ take k xs) → said ≡ length (transcript_of front) → out' ≡ over (transcript_of front) out
    → OnOk r (Appends before after (take said out')) → OnOk r (IfSome known (λ xs. Appends before after (transcript_of xs)))
prints (Ok u) None before after k front out out' said full read long there written = tt
prints (Ok u) (Some xs) before after k front out out' said full read long there written =
    subst (Appends before after)
    ((λ i. take (long i) (there i)) ∙ over_front (transcript_of front) out ∙ ap transcript_of read ∙ front_enough k xs full)
    written
prints (Err e) known before after k front out out' said full read long there written = tt
