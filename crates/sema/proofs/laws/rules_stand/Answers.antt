use Rattle.sema.proofs.NameRules.{named_there, named_back, laid_program}
use Rattle.sema.proofs.TypeRules.{typed_there, typed_back}
use Rattle.sema.proofs.SizeRules.{ranged_there, ranged_back}
use Rattle.sema.proofs.laws.rules_stand.Goals as goal

pub returns : goal.returns
returns c =
    record {
      keeps = λ p h. record { names = named_there p h.0; types = typed_there p h.1; sizes = ranged_there p h.2 };
      admits = λ p r. (named_back p r.names, typed_back p r.types, ranged_back p r.sizes);
      names = λ p. (named_there p, named_back p);
      types = λ p. (typed_there p, typed_back p);
      sizes = λ p. (ranged_there p, ranged_back p);
      table = laid_program;
    }
