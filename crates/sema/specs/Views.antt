-- What the code tells of a declaration and of a use of a name, as the definitions have it.
use Rattle.lexer.specs.Names.{name_of}
use Rattle.sema.specs.declared.view.Declaration.{Declaration}
use Rattle.sema.specs.declared.view.Mention.{Mention}
use Rattle.sema.specs.Entered.{sort_of, cells_of}
use Rattle.sema.specs.Names.{DeclaredName, Use}

-- A declaration of the code.
abbrev pub declared_name_of : Declaration → DeclaredName
declared_name_of d =
    record { name = name_of d.name; value_type = d.value_type; sort = sort_of d.high; cells = cells_of d.high; offset = d.offset }

-- A use of a name in the code.
abbrev pub use_of_mention : Mention → Use
use_of_mention m = record { name = name_of m.name; sort = m.sort; offset = m.offset }
