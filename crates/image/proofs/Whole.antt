-- Codes and images answer to each other, one to one.
use Rattle.std.proofs.Common.{◌≡◌, ℕ, ◌+◌, ◌≤◌, true, cond, ◌&&◌, leb, List, [], ◌∷◌, ◌++◌, length, Ok, Result, sym, refl, ap, ◌∙◌, subst, arith}
use Rattle.std.proofs.lemmas.Bool.{and_from, le-leb, cond_both}
use Rattle.base.specs.Refusals.{refuse, then}
use Rattle.base.specs.declared.instr.Instr.{Instr}
use Rattle.base.specs.declared.refusal.Refusal.{Refusal}
use Rattle.base.specs.declared.code.Figures.{Figures}
use Rattle.image.specs.Codes.{Code, code_from, body_bytes, image, good_header}
use Rattle.image.specs.Groups.{number_bytes}
use Rattle.image.specs.Reading.{figures_at, entries_at, decoding}
use Rattle.image.specs.Theorems.{Bytes, Entries, IsCode, OneImage, OnlyImages, OneCode, WritesBack}
use Rattle.image.specs.Writing.{entry_refusal, encoding}
use Rattle.image.proofs.Bodies.{encoded_whole}
use Rattle.image.proofs.Inverse.{clash, same, then_ok, figures_ok, entries_length}
use Rattle.image.proofs.Onlys.{all_bytes, number_only, entries_only}
use Rattle.image.proofs.ReadBack.{image_parts, reads_back}

judged_good : (i : ℕ) (is : List Instr) → Entries is → entry_refusal i is ≡ Ok tt
unfolding entry_refusal
judged_good i [] h = refl
judged_good i (x ∷ xs) h = rw h.0 (judged_good (i + 1) xs h.4)

abbrev wrote : List ℕ → Result (List ℕ) Refusal
wrote bs = Ok bs

-- what is written is the image
encoded_only : (room : ℕ) (k : Code) (bs : List ℕ) → encoding room k ≡ Ok bs → bs ≡ image k
unfolding encoding
encoded_only room k bs =
    let sized = cond (leb (length (image k)) room) (wrote (image k)) (refuse 27 (length (image k))) in
    cond_both (good_header k.cells (length k.entries)) (then (entry_refusal 0 k.entries) (λ _. sized)) (refuse 28 0) (λ r. r ≡ Ok bs → bs ≡ image k)
    (λ t p.
    cond_both (leb (length (image k)) room) (wrote (image k)) (refuse 27 (length (image k))) (λ r. r ≡ Ok bs → bs ≡ image k)
    (λ u q. sym (same (image k) bs q))
    (λ u q. absurd (clash _ bs q))
    (then_ok (entry_refusal 0 k.entries) (λ _. sized) bs p).2)
    (λ t p. absurd (clash _ bs p))

pub one_image : OneImage
one_image k h room = (λ l. encoded_whole room k h.header (judged_good 0 k.entries h.entries) l, encoded_only room k)

header_good : (c n : ℕ) → c ≤ 4096 → 1 ≤ n → n ≤ 16383 → good_header c n ≡ true
unfolding good_header
header_good c n few some many =
    and_from (leb c 4096) (leb 1 n && leb n 16383) (le-leb c 4096 few) (and_from (leb 1 n) (leb n 16383) (le-leb 1 n some) (le-leb n 16383 many))

-- a code, its bytes, and room for its entries
abbrev Answers : List ℕ → ℕ → Code → Type 0
Answers bs room k = IsCode k × (bs ≡ image k) × (length k.entries ≤ room)

parts_only : (room : ℕ) (bs cs : List ℕ) (f : Figures) (is : List Instr) → Bytes bs → figures_at (length bs) room bs ≡ Ok (f, cs) → entries_at (length bs) f.count [] cs ≡ Ok is →
    Answers bs room (code_from f.cells f.depth is)
parts_only room bs cs f is h p q =
    let end = length bs in
    let t = figures_ok end room bs f cs p in
    let c = number_only end bs f.cells t.first (all_bytes bs h) t.cells in
    let d = number_only end t.first f.depth t.second c.left t.depth in
    let n = number_only end t.second f.count cs d.left t.count in
    let r = entries_only end f.count [] cs is n.left q in
    let l : f.count ≡ length is = omega (arith, entries_length end f.count [] cs is q) in
    let b : cs ≡ body_bytes is = r.bytes ∙ ap body_bytes (sym r.is_all) in
    let m : t.second ≡ number_bytes (length is) ++ body_bytes is = n.is ∙ ap (λ j. number_bytes j ++ cs) l ∙ ap (λ v. number_bytes (length is) ++ v) b in (
      record {
        header = header_good f.cells (length is) t.few (omega (arith, t.some, l)) (omega (arith, t.many, l));
        depth = d.small;
        entries = subst Entries (sym r.is_all) r.good;
      },
      c.is ∙ ap (λ v. number_bytes f.cells ++ v) (d.is ∙ ap (λ v. number_bytes f.depth ++ v) m) ∙ sym (image_parts (code_from f.cells f.depth is)),
      omega (arith, t.within, l),
    )

pub only_images : OnlyImages
unfolding decoding
only_images bs h room k p =
    let x = then_ok (figures_at (length bs) room bs) _ _ p in
    let y = then_ok (entries_at (length bs) x.0.0.count [] x.0.1) _ _ x.2 in
    subst (Answers bs room) (same _ k y.2) (parts_only room bs x.0.1 x.0.0 y.0 h x.1 y.1)

pub one_code : OneCode
one_code k l h j e =
    let room = length k.entries + length l.entries in
    same k l (sym (reads_back k h room (omega arith)) ∙ ap (decoding room) e ∙ reads_back l j room (omega arith))

pub writes_back : WritesBack
writes_back bs h room k p =
    let o = only_images bs h room k p in
    let fits : length (image k) ≤ length bs = omega (arith, ap length o.1) in
    (one_image k o.0 (length bs)).0 fits ∙ ap wrote (sym o.1)
