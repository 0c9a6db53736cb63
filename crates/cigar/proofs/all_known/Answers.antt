-- `all_known`: std's `all` is true if each word passes, as `every` is. Assumes nothing.
use Rattle.std.proofs.Common.{◌≡◌, refl, sym, ap, ◌∙◌, ℕ, Bool, List, [], ◌∷◌, ◌&&◌, rules}
use Rattle.std.specs.Prelude.{◌↔◌, IsTrue}
use Rattle.std.specs.List.{list_all, AllPass}
use Rattle.std.proofs.lemmas.List.Sums.{AllPass-from_list_all, list_all-from_AllPass}
use Rattle.lent.specs.Lists.{every}
use Rattle.lent.proofs.Tests.{by-test}
use Rattle.cigar.specs.Cigar.{is_known}
use Rattle.cigar.proofs.all_known.Goals as goal

every_is_all : (t : ℕ → Bool) (xs : List ℕ) → every t xs ≡ list_all t xs
every_is_all t [] = refl
every_is_all t (x ∷ xs) = ap (λ (b : Bool). t x && b) (every_is_all t xs)

decided : (t : ℕ → Bool) (xs : List ℕ) (r : Bool) → (IsTrue r ↔ AllPass t xs) → r ≡ every t xs
decided t xs r h =
    by-test r
    (λ e. e ∙ sym (every_is_all t xs ∙ list_all-from_AllPass t xs (h.0 e)))
    (λ e. by-test (every t xs) (λ u. h.1 (AllPass-from_list_all t xs (sym (every_is_all t xs) ∙ u)) ∙ sym u) (λ u. e ∙ sym u))

pub returns : goal.returns
returns c =
    let h : IsTrue c.all.result ↔ AllPass is_known c.args.cigar.now = search rules in
    decided is_known c.args.cigar.now c.all.result h
