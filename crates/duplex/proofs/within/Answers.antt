-- `within`: row by row.
-- Assumes nothing.
use mathlib.Core.Path.{◌∙◌, ◌≡◌, ap}
use mathlib.Core.Bool.{Bool, ◌&&◌}
use lib.Dec.{leb}
use Rattle.duplex.proofs.within.Goals as goal

pub returns : goal.returns
returns c =
    let e0 : c.fits_too-fits.result ≡ leb c.args.parts.seq c.args.rows.seq = c.fits_too-fits.ensures in
    let e1 : c.fits_too-fits-2.result ≡ _ = c.fits_too-fits-2.ensures ∙ ap (λ (t : Bool). t && leb c.args.parts.mm c.args.rows.mm) e0 in
    let e2 : c.fits_too-fits-3.result ≡ _ = c.fits_too-fits-3.ensures ∙ ap (λ (t : Bool). t && leb c.args.parts.ml c.args.rows.ml) e1 in
    let e3 : c.fits_too-fits-4.result ≡ _ = c.fits_too-fits-4.ensures ∙ ap (λ (t : Bool). t && leb c.args.parts.unconverted c.args.rows.unconverted) e2 in
    let e4 : c.fits_too-fits-5.result ≡ _ = c.fits_too-fits-5.ensures ∙ ap (λ (t : Bool). t && leb c.args.parts.converted c.args.rows.converted) e3 in
    let e5 : c.fits_too-fits-6.result ≡ _ = c.fits_too-fits-6.ensures ∙ ap (λ (t : Bool). t && leb c.args.parts.first_mm c.args.rows.first_mm) e4 in
    let e6 : c.fits_too-fits-7.result ≡ _ = c.fits_too-fits-7.ensures ∙ ap (λ (t : Bool). t && leb c.args.parts.first_unconverted c.args.rows.first_unconverted) e5 in
    let e7 : c.fits_too-fits-8.result ≡ _ = c.fits_too-fits-8.ensures ∙ ap (λ (t : Bool). t && leb c.args.parts.first_converted c.args.rows.first_converted) e6 in
    let e8 : c.fits_too-fits-9.result ≡ _ = c.fits_too-fits-9.ensures ∙ ap (λ (t : Bool). t && leb c.args.parts.second_mm c.args.rows.second_mm) e7 in
    let e9 : c.fits_too-fits-10.result ≡ _ = c.fits_too-fits-10.ensures ∙ ap (λ (t : Bool). t && leb c.args.parts.second_unconverted c.args.rows.second_unconverted) e8 in
    c.fits_too.ensures ∙ ap (λ (t : Bool). t && leb c.args.parts.second_converted c.args.rows.second_converted) e9
