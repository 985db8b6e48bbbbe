-- What is compiled is what the rules give for the source's tree. Assumes nothing.
use Rattle.std.proofs.Common.{◌≡◌, ℕ, ◌<◌, ◌≤◌, ◌⊎◌, inl, inr, min, Bool, true, false, cond, List, map, length, Some, None, Ok, Err, Option, Result, sym, refl, ap, subst, ◌∙◌}
use Rattle.std.specs.Prelude.{nat_le}
use Rattle.std.proofs.lemmas.Bool.{leb-true, le-leb, lt-leb}
use Rattle.base.specs.declared.refusal.Refusal.{Refusal}
use Rattle.base.specs.Refusals.{refuse, then}
use Rattle.parser.specs.Nodes.{Node}
use Rattle.parser.specs.Machine.{ParseAnswer}
use Rattle.parser.specs.Works.{parse, syntax_list}
use Rattle.parser.specs.Marks.{piece_tok}
use Rattle.lexer.specs.Cut.{Piece, token_list}
use Rattle.grammar.specs.Grammar.{ProgramWritten}
use Rattle.ast.specs.Trees.{Program}
use Rattle.ast.specs.Lists.{list}
use Rattle.grammar.proofs.Exact.{cut_of, reads_the_grammar, one_tree}
use Rattle.ir.specs.Instrs.{peak}
use Rattle.codegen.specs.Code.{program, depth}
use Rattle.codegen.specs.Items.{code_of_items}
use Rattle.codegen.proofs.Sizes.{stands}
use Rattle.sema.specs.Faults.{least}
use Rattle.sema.specs.Names.{program_names}
use Rattle.sema.specs.Types.{program_types}
use Rattle.sema.specs.Sizes.{program_sizes}
use Rattle.sema.specs.Rules.{NamesHold, KeepsTheRules}
use Rattle.sema.specs.Verdicts.{IsRefusedWith, IsNotRefused}
use Rattle.sema.specs.Emitting.{typed_list}
use Rattle.sema.specs.Resolving.{resolve}
use Rattle.sema.specs.Works.{CheckedSource, earlier, verdict, unless_fault, outcome, list_check, source_check}
use Rattle.sema.proofs.Least.{least_decides}
use Rattle.sema.proofs.NameRules.{named_there, named_back, laid_program}
use Rattle.sema.proofs.TypeRules.{typed_there, typed_back}
use Rattle.sema.proofs.SizeRules.{ranged_there, ranged_back}
use Rattle.sema.proofs.Verdicts.{faults_stand, refused_exactly}
use Rattle.sema.proofs.OnNames.{table_program, names_program}
use Rattle.sema.proofs.OnTypes.{types_program}
use Rattle.sema.proofs.OnSizes.{sizes_program}
use Rattle.sema.proofs.OnWriting.{typed_program}
use Rattle.compiler.specs.Compile.{Code, code_of, code_or_too_long, compilation, IsWritten, CompiledTree}
use Rattle.compiler.specs.Theorems.{code_for, Unread, CompilesExactly}

-- the tree that a source is read to, and it is written so
pub read_to : (source : List ℕ) (es : List Node) → syntax_list source ≡ Ok es → (p : Program) × IsWritten source p × (list p ≡ es)
read_to source es h =
    let c = cut_of source es h in
    let w = (reads_the_grammar (length source) c.0 es).0 c.2 in
    (w.0, record { pieces = c.0; cut = c.1; written = w.1 }, w.2)

-- the fault that decides, by the stages' lists of faults
abbrev found : Program → Option Refusal
found p = earlier (least (program_names p)) (earlier (least (program_types p)) (least (program_sizes p)))

-- the stages over its list are those of the tree
verdict_is : (p : Program) → verdict (list p) ≡ found p
unfolding verdict
verdict_is p = rw (table_program p, names_program p, types_program p, sizes_program p)

earlier_none : (f g : Option Refusal) → earlier f g ≡ None → (f ≡ None) × (g ≡ None)
earlier_none None g e = (refl, e)
earlier_none (Some f) g e = absurd cc

admitted : (p : Program) → verdict (list p) ≡ None → KeepsTheRules p
admitted p h =
    let a = earlier_none (least (program_names p)) (earlier (least (program_types p)) (least (program_sizes p))) (sym (verdict_is p) ∙ h) in
    let b = earlier_none (least (program_types p)) (least (program_sizes p)) a.1 in
    record { names = named_there p a.0; types = typed_there p b.0; sizes = ranged_there p b.1 }

-- the code of a tree, by the rules
emitted_is : (p : Program) → code_of_items (typed_list (list p)) ≡ program (resolve p)
emitted_is p = ap code_of_items (typed_program p) ∙ stands.code (resolve p)

depth_is : (b : _) → peak 0 (program b) ≡ depth b
unfolding depth
depth_is b = refl

-- an answer that is one comes of answers
then_ok : {A B : Type 0} (x : Result A Refusal) (k : A → Result B Refusal) (b : B) → then x k ≡ Ok b → (a : A) × (x ≡ Ok a) × (k a ≡ Ok b)
then_ok (Ok a) k b h = (a, refl, h)
then_ok (Err e) k b h = absurd cc

answered_ok : (o : Option Refusal) (x c : CheckedSource) → unless_fault o x ≡ Ok c → (o ≡ None) × (x ≡ c)
answered_ok None x c h = (refl, cc)
answered_ok (Some f) x c h = absurd cc

judged_ok : (es : List Node) (c : CheckedSource) → list_check es ≡ Ok c → (verdict es ≡ None) × (outcome es ≡ c)
unfolding list_check
judged_ok es c h = answered_ok (verdict es) (outcome es) c h

fit_ok : (b : Bool) (k c : Code) (n : ℕ) → cond b (Ok k) (refuse 14 n) ≡ Ok c → (b ≡ true) × (k ≡ c)
fit_ok true k c n h = (refl, cc)
fit_ok false k c n h = absurd cc

fitted_ok : (room n : ℕ) (k c : Code) → code_or_too_long room n k ≡ Ok c → (k ≡ c) × (length k.instrs ≤ min 16383 room)
fitted_ok room n k c h = let f = fit_ok (nat_le (length k.instrs) (min 16383 room)) k c n h in (f.1, leb-true _ _ f.0)

compiled_ok : (source : List ℕ) (room : ℕ) (c : Code) → compilation source room ≡ Ok c →
    (es : List Node) × (syntax_list source ≡ Ok es) × (verdict es ≡ None) × (code_of (outcome es) ≡ c) × (length c.instrs ≤ min 16383 room)
unfolding compilation source_check
compiled_ok source room c h =
    let a = then_ok (source_check source) (λ x. code_or_too_long room (length source) (code_of x)) c h in
    let b = then_ok (syntax_list source) list_check a.0 a.1 in
    let d = judged_ok b.0 a.0 b.2 in
    let f = fitted_ok room (length source) (code_of a.0) c a.2 in
    (b.0, b.1, d.0, ap code_of d.1 ∙ f.0, subst (λ (k : Code). length k.instrs ≤ min 16383 room) f.0 f.1)

-- what is accepted is written from a tree that is in order, and this is its code
pub tree_of : (source : List ℕ) (room : ℕ) (c : Code) →
    compilation source room ≡ Ok c → (p : Program) × CompiledTree source p c × (length c.instrs ≤ min 16383 room)
tree_of source room c h =
    let a = compiled_ok source room c h in
    let w = read_to source a.0 a.1 in
    let e : code_of (outcome (list w.0)) ≡ c = ap (λ es. code_of (outcome es)) w.2 ∙ a.3 in
    let r = admitted w.0 (ap verdict w.2 ∙ a.2) in (
      w.0,
      record {
        written = w.1;
        admitted = r;
        cells = sym (ap (λ (k : Code). k.cells) e) ∙ ap (λ t. t.cells) (table_program w.0 ∙ laid_program w.0 r.names);
        depth = sym (ap (λ (k : Code). k.depth) e) ∙ ap (peak 0) (emitted_is w.0) ∙ depth_is (resolve w.0);
        instrs = sym (ap (λ (k : Code). k.instrs) e) ∙ emitted_is w.0;
      },
      a.4,
    )

-- and back, from the tree
listed : (source : List ℕ) (p : Program) → IsWritten source p → syntax_list source ≡ Ok (list p)
unfolding syntax_list
listed source p w = ap (λ x. then x (parse (length source))) w.cut ∙ (reads_the_grammar (length source) w.pieces (list p)).1 (p, w.written, refl)

code_is : (p : Program) → NamesHold p → code_of (outcome (list p)) ≡ code_for p
unfolding depth
code_is p n = rw (table_program p, laid_program p n, emitted_is p) refl

-- by what the stages find in the tree
found_is : (source : List ℕ) (room : ℕ) (p : Program) → IsWritten source p →
    compilation source room ≡ then (unless_fault (found p) (outcome (list p))) (λ c. code_or_too_long room (length source) (code_of c))
unfolding compilation source_check list_check
found_is source room p w = rw (listed source p w, verdict_is p) refl

found_none : (p : Program) → KeepsTheRules p → found p ≡ None
found_none p r = rw (named_back p r.names, typed_back p r.types, ranged_back p r.sizes) refl

fits : (source : List ℕ) (room : ℕ) (p : Program) → IsWritten source p → KeepsTheRules p → compilation source room ≡ code_or_too_long room (length source) (code_for p)
fits source room p w a =
    found_is source room p w
    ∙ ap (λ o. then (unless_fault o (outcome (list p))) (λ c. code_or_too_long room (length source) (code_of c))) (found_none p a)
    ∙ ap (code_or_too_long room (length source)) (code_is p a.names)

each : (source : List ℕ) (room : ℕ) (p : Program) →
    IsWritten source p → KeepsTheRules p → length (program (resolve p)) ≤ min 16383 room → compilation source room ≡ Ok (code_for p)
each source room p w a l = fits source room p w a ∙ ap (λ b. cond b (Ok (code_for p)) (refuse 14 (length source))) (le-leb _ _ l)

long : (source : List ℕ) (room : ℕ) (p : Program) →
    IsWritten source p → KeepsTheRules p → min 16383 room < length (program (resolve p)) → compilation source room ≡ refuse 14 (length source)
long source room p w a l = fits source room p w a ∙ ap (λ b. cond b (Ok (code_for p)) (refuse 14 (length source))) (lt-leb _ _ l)

faulty : (source : List ℕ) (room : ℕ) (p : Program) (f : Refusal) → IsWritten source p → IsRefusedWith p f → compilation source room ≡ Err f
unfolding compilation
faulty source room p f w r = ap (λ x. then x (λ c. code_or_too_long room (length source) (code_of c))) ((refused_exactly.refused source p (listed source p w) f).1 r)

unread : (source : List ℕ) (room : ℕ) (f : Refusal) → Unread source f → compilation source room ≡ Err f
unfolding compilation source_check syntax_list
unread source room f (inl e) = rw e refl
unread source room f (inr x) = rw (x.1, x.2) refl

-- a tree keeps the rules exactly where no fault stands in it
unrefused : (p : Program) → KeepsTheRules p → IsNotRefused p
unrefused p r = (
  λ f x. (least_decides.none (program_names p)).0 (named_back p r.names) f ((faults_stand.names p f).1 x),
  λ f x. (least_decides.none (program_types p)).0 (typed_back p r.types) f ((faults_stand.types p f).1 x),
  λ f x. (least_decides.none (program_sizes p)).0 (ranged_back p r.sizes) f ((faults_stand.sizes p r.names f).1 x),
)

right : (p : Program) → IsNotRefused p → KeepsTheRules p
right p u =
    let n = named_there p ((least_decides.none (program_names p)).1 (λ f c. u.0 f ((faults_stand.names p f).0 c))) in
    record {
      names = n;
      types = typed_there p ((least_decides.none (program_types p)).1 (λ f c. u.1 f ((faults_stand.types p f).0 c)));
      sizes = ranged_there p ((least_decides.none (program_sizes p)).1 (λ f c. u.2 f ((faults_stand.sizes p n f).0 c)));
    }

one : (source : List ℕ) (p q : Program) → IsWritten source p → IsWritten source q → p ≡ q
one source p q v w =
    let e : v.pieces ≡ w.pieces = cc in
    one_tree 32 32 p q (map piece_tok w.pieces) (subst (λ ps. ProgramWritten 32 p (map piece_tok ps)) e v.written) w.written

unread_list : (source : List ℕ) (f : Refusal) (ps : List Piece) → token_list source ≡ Ok ps → parse (length source) ps ≡ Err f → syntax_list source ≡ Err f
unfolding syntax_list
unread_list source f ps e h = ap (λ x. then x (parse (length source))) e ∙ h

none : (source : List ℕ) (p : Program) (f : Refusal) → IsWritten source p → Unread source f → ⊥
none source p f w (inl e) = cc
none source p f w (inr x) = let g = listed source p w in let u : syntax_list source ≡ Err f = unread_list source f x.0 x.1 x.2 in cc

refused_so : (n : ℕ) (x : Result (List Piece) Refusal) (f : Refusal) →
    then x (parse n) ≡ Err f → (x ≡ Err f) ⊎ ((ps : List Piece) × (x ≡ Ok ps) × (parse n ps ≡ Err f))
refused_so n (Ok ps) f h = inr (ps, refl, h)
refused_so n (Err e) f h = inl (cc)

parsed : (source : List ℕ) (x : ParseAnswer) → syntax_list source ≡ x → ((p : Program) × IsWritten source p) ⊎ ((f : Refusal) × Unread source f)
unfolding syntax_list
parsed source (Ok es) h = let w = read_to source es h in inl (w.0, w.1)
parsed source (Err f) h = inr (f, refused_so (length source) (token_list source) f h)

pub compiles_exactly : CompilesExactly
compiles_exactly =
    record {
      read = λ source. parsed source (syntax_list source) refl;
      one = one;
      none = none;
      only = tree_of;
      each = each;
      unread = unread;
      faulty = faulty;
      admitted = λ p. (unrefused p, right p);
      long = long;
    }
