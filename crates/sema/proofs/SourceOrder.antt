-- The names of a source stand in it in the order in which they are declared. Assumes nothing.
use Rattle.std.proofs.Common.{◌≡◌, ℕ, zero, suc, ◌+◌, ◌-◌, ◌≤◌, Bool, eqb, ltb, List, [], ◌∷◌, ◌++◌, length, map, Some, None, Ok, Err, Option, Result, sym, refl, subst, arith}
use Rattle.std.proofs.lemmas.Bool.{cond_both, eqb-true}
use Rattle.base.specs.declared.refusal.Refusal.{Refusal}
use Rattle.base.specs.Refusals.{refuse}
use Rattle.parser.specs.declared.value_type.ValueType.{ValueType}
use Rattle.lexer.specs.Lexemes.{gap_of}
use Rattle.lexer.specs.Cut.{Piece, Front, onward, width_of, Cut, lexeme, cut, tokens_left, fault, tokens_unless_fault, token_list}
use Rattle.lexer.specs.Cut as piece
use Rattle.lexer.specs.Forms.{offset_of as stands_at}
use Rattle.lexer.proofs.Sound.{Sound, lexeme_sound}
use Rattle.parser.specs.Marks.{Tok, piece_tok}
use Rattle.parser.specs.Works.{syntax_list}
use Rattle.ast.specs.Trees.{Decl, Program}
use Rattle.ast.specs.Lists.{list}
use Rattle.grammar.specs.Grammar.{ItemWritten, ItemsWritten, TypedWritten, DeclarationsWritten, ProgramWritten}
use Rattle.grammar.specs.Grammar as rule
use Rattle.grammar.proofs.Exact.{reads_the_grammar, cut_of}
use Rattle.grammar.proofs.Rebuild.{list_one}
use Rattle.sema.specs.Standing.{offset_of_decl}
use Rattle.sema.proofs.SizesStand.{InOrder}

-- tokens from lo on, each at a larger offset than the one before it
abbrev Pieces : ℕ → List Piece → Type 0
Pieces lo [] = Unit {0}
Pieces lo (t ∷ ts) = (lo ≤ stands_at t) × Pieces (stands_at t + 1) ts

pieces_from : (ts : List Piece) (a b : ℕ) → a ≤ b → Pieces b ts → Pieces a ts
pieces_from [] a b l h = tt
pieces_from (t ∷ ts) a b l h = (omega (arith, l, h.0), h.1)

by_front : (p lo : ℕ) (xs : List ℕ) (f : Front) (c : Cut) → Sound p xs f → lo ≤ p → Pieces (p + 1) c.tokens → Pieces lo (onward f c).tokens
by_front p lo xs (Err r) c s l h = tt
by_front p lo xs (Ok f) c s l h = (omega (arith, s.0, l), subst (λ (q : ℕ). Pieces (q + 1) c.tokens) (sym s.0) h)

cut_climbs : (end k : ℕ) (bs : List ℕ) → length bs ≤ end → Pieces ((end + k) - length bs) (cut end k bs).tokens
unfolding cut
cut_climbs end zero [] l = tt
cut_climbs end (suc k) [] l = tt
cut_climbs end (suc k) (b ∷ bs) l =
    pieces_from (cut end k bs).tokens ((end + suc k) - length (b ∷ bs)) ((end + k) - length bs) (omega (arith, l)) (cut_climbs end k bs (omega (arith, l)))
cut_climbs end zero (b ∷ bs) l =
    let p = end - length (b ∷ bs) in
    let w = width_of (lexeme p (b ∷ bs)) in
    cond_both (eqb (gap_of (b ∷ bs)) 0) (onward (lexeme p (b ∷ bs)) (cut end (w - 1) bs)) (cut end (gap_of (b ∷ bs) - 1) bs)
    (λ c. Pieces ((end + 0) - length (b ∷ bs)) c.tokens)
    (λ t.
    by_front p ((end + 0) - length (b ∷ bs)) (b ∷ bs) (lexeme p (b ∷ bs)) (cut end (w - 1) bs) (lexeme_sound p b bs (eqb-true (gap_of (b ∷ bs)) 0 t))
    (omega arith)
    (pieces_from (cut end (w - 1) bs).tokens (p + 1) ((end + (w - 1)) - length bs) (omega (arith, l)) (cut_climbs end (w - 1) bs (omega (arith, l)))))
    (λ t.
    pieces_from (cut end (gap_of (b ∷ bs) - 1) bs).tokens ((end + 0) - length (b ∷ bs)) ((end + (gap_of (b ∷ bs) - 1)) - length bs) (omega (arith, l))
    (cut_climbs end (gap_of (b ∷ bs) - 1) bs (omega (arith, l))))

settled_climb : (ts ps : List Piece) (o : Option Refusal) → Pieces 0 ts → tokens_unless_fault ts o ≡ Ok ps → Pieces 0 ps
settled_climb ts ps None h e = subst (Pieces 0) (let f : ts ≡ ps = cc in f) h
settled_climb ts ps (Some f) h e = absurd cc

texted_climbs : (source : List ℕ) (ps : List Piece) → token_list source ≡ Ok ps → Pieces 0 ps
unfolding token_list tokens_left
texted_climbs source ps =
    cond_both (ltb 32768 (length source)) (refuse 1 32768) (tokens_unless_fault (tokens_left (length source) source) (fault (length source) source))
    (λ (x : Result (List Piece) Refusal). x ≡ Ok ps → Pieces 0 ps)
    (λ t e. absurd cc)
    (λ t e.
    settled_climb (tokens_left (length source) source) ps (fault (length source) source)
    (pieces_from _ 0 ((length source + 0) - length source) (omega arith) (cut_climbs (length source) 0 source (omega arith)))
    e)

-- the same as the grammar looks at them
abbrev Climbs : ℕ → List Tok → Type 0
Climbs lo [] = Unit {0}
Climbs lo (t ∷ ts) = (lo ≤ t.offset) × Climbs (t.offset + 1) ts

seen_place : (t : Piece) → stands_at t ≡ (piece_tok t).offset
seen_place (piece.word w p) = refl
seen_place (piece.number w k v p) = refl
seen_place (piece.symbol s p) = refl

seen_climb : (ps : List Piece) (lo : ℕ) → Pieces lo ps → Climbs lo (map piece_tok ps)
seen_climb [] lo h = tt
seen_climb (t ∷ ps) lo h =
    (omega (arith, h.0, seen_place t), seen_climb ps ((piece_tok t).offset + 1) (subst (λ (q : ℕ). Pieces (q + 1) ps) (seen_place t) h.1))

-- declarations from lo on, each behind the one before it, all before hi
abbrev Between : ℕ → List Decl → ℕ → Type 0
Between lo [] hi = lo ≤ hi
Between lo (d ∷ ds) hi = (lo ≤ offset_of_decl d) × Between (offset_of_decl d + 1) ds hi

between_from : (ds : List Decl) (a b hi : ℕ) → a ≤ b → Between b ds hi → Between a ds hi
between_from [] a b hi l h = omega (arith, l, h)
between_from (d ∷ ds) a b hi l h = (omega (arith, l, h.0), h.1)

appended : (ds es : List Decl) (lo mid hi : ℕ) → Between lo ds mid → Between mid es hi → Between lo (ds ++ es) hi
appended [] es lo mid hi h k = between_from es lo mid hi h k
appended (d ∷ ds) es lo mid hi h k = (h.0, appended ds es (offset_of_decl d + 1) mid hi h.1 k)

in_order : (ds : List Decl) (lo hi : ℕ) → Between lo ds hi → InOrder ds
in_order [] lo hi h = tt
in_order (d ∷ []) lo hi h = (tt, tt)
in_order (d ∷ e ∷ ds) lo hi h = (omega (arith, h.1.0), in_order (e ∷ ds) (offset_of_decl d + 1) hi h.1)

climbs_from : (ts : List Tok) (a b : ℕ) → a ≤ b → Climbs b ts → Climbs a ts
climbs_from [] a b l h = tt
climbs_from (t ∷ ts) a b l h = (omega (arith, l, h.0), h.1)

-- the declarations that are written there, and the tokens behind them
abbrev Behind : ℕ → List Decl → List Tok → Type 0
Behind lo ds us = (hi : ℕ) × Between lo ds hi × Climbs hi us

item_climbs : {a : Bool} {k : ValueType} {d : Decl} {ts us : List Tok} → ItemWritten a k d ts us → (lo : ℕ) → Climbs lo ts → (lo ≤ offset_of_decl d) × Climbs (offset_of_decl d + 1) us
item_climbs (rule.simple {us = us}) lo h = (h.0, h.1)
item_climbs (rule.array {p = p} {p₄ = q} {us = us}) lo h =
    (h.0, climbs_from us (p + 1) (q + 1) (omega (arith, h.1.0, h.1.1.0, h.1.1.1.0, h.1.1.1.1.0, h.1.1.1.1.1.0)) h.1.1.1.1.1.1)

items_climb : {a : Bool} {k : ValueType} {ds : List Decl} {ts us : List Tok} → ItemsWritten a k ds ts us → (lo : ℕ) → Climbs lo ts → Behind lo ds us
items_climb (rule.one {p = p} w) lo h =
    let x = item_climbs w lo h in
    (p + 1, (x.0, omega (arith, x.1.0)), x.1.1)
items_climb (rule.several {d = d} {ds = ds} {p = p} w v) lo h =
    let x = item_climbs w lo h in
    let y = items_climb v (p + 1) x.1.1 in
    (y.0, (x.0, between_from ds (offset_of_decl d + 1) (p + 1) y.0 (omega (arith, x.1.0)) y.1), y.2)

typed_climb : {k : ValueType} {ds : List Decl} {ts us : List Tok} → TypedWritten k ds ts us → (lo : ℕ) → Climbs lo ts → Behind lo ds us
typed_climb (rule.names w) lo h = items_climb w lo h
typed_climb (rule.arrays {ds = ds} {p = p} w) lo h =
    let x = items_climb w (p + 1) h.1 in
    (x.0, between_from ds lo (p + 1) x.0 (omega (arith, h.0)) x.1, x.2)

-- after a word at p
joined : (ds es : List Decl) (us : List Tok) (lo p hi : ℕ) → lo ≤ p → Between (p + 1) ds hi → Behind hi es us → Behind lo (ds ++ es) us
joined ds es us lo p hi l h y = (y.0, between_from (ds ++ es) lo (p + 1) y.0 (omega (arith, l)) (appended ds es (p + 1) hi y.0 h y.1), y.2)

declarations_climb : {ds : List Decl} {ts us : List Tok} → DeclarationsWritten ds ts us → (lo : ℕ) → Climbs lo ts → Behind lo ds us
declarations_climb (rule.none {us = us}) lo h = (lo, omega arith, h)
declarations_climb (rule.typed {ds = ds} {es = es} {p = p} {vs = vs} e w v) lo h =
    let x = typed_climb w (p + 1) h.1 in
    joined ds es vs lo p x.0 h.0 x.1 (declarations_climb v x.0 x.2)
declarations_climb (rule.untyped {ds = ds} {es = es} {p = p} {vs = vs} w v) lo h =
    let x = items_climb w (p + 1) h.1 in
    joined ds es vs lo p x.0 h.0 x.1 (declarations_climb v x.0 x.2)

program_climbs : {l : ℕ} {x : Program} {ts : List Tok} → ProgramWritten l x ts → Climbs 0 ts → InOrder x.decls
program_climbs (rule.program {p = p} {ds = ds} g w v) h = let x = declarations_climb w (p + 1) h.1 in in_order ds (p + 1) x.0 x.1

pub source_order : (source : List ℕ) (x : Program) → syntax_list source ≡ Ok (list x) → InOrder x.decls
source_order source x e =
    let c = cut_of source (list x) e in
    let w = (reads_the_grammar (length source) c.0 (list x)).0 c.2 in
    subst (λ (y : Program). InOrder y.decls) (list_one w.0 x w.2) (program_climbs w.1 (seen_climb c.0 0 (texted_climbs source c.0 c.1)))
