-- The nodes of a syntax list, as the definitions use them: a name is given by its bytes.
use Rattle.std.specs.Prelude.{ℕ, List, map}
use Rattle.parser.specs.declared.value_type.ValueType.{ValueType}
use Rattle.lexer.specs.Names.{name_of}
use Rattle.parser.specs.declared.node.Operator.{Operator}
use Rattle.arith.specs.declared.shift.Kind.{Kind as ShiftKind}
use Rattle.parser.specs.declared.node.Node.{Node as CodeNode}
use Rattle.parser.specs.declared.node.Node.TheVariants as code_node

-- A node of the syntax list.
pub data Node : Type 0 where
  Simple : (name : List ℕ) (value_type : ValueType) (offset : ℕ) → Node
  Array : (name : List ℕ) (value_type : ValueType) (low : ℕ) (high : ℕ) (offset : ℕ) (bound : ℕ) → Node
  Number : (value : ℕ) (value_type : ValueType) → Node
  Load : (name : List ℕ) (offset : ℕ) → Node
  Index : (name : List ℕ) (offset : ℕ) (paren : ℕ) → Node
  Binary : (operator : Operator) (offset : ℕ) → Node
  Negate : (offset : ℕ) → Node
  Lnot : (offset : ℕ) → Node
  Convert : (value_type : ValueType) → Node
  Field : (first : ℕ) (second : ℕ) (offset : ℕ) → Node
  Shift : (shift : ShiftKind) (count : ℕ) (offset : ℕ) → Node
  Store : (name : List ℕ) (offset : ℕ) (becomes : ℕ) → Node
  Checked : (name : List ℕ) (offset : ℕ) (paren : ℕ) → Node
  StoreAt : (name : List ℕ) (offset : ℕ) (becomes : ℕ) → Node
  Fetch : (name : List ℕ) (offset : ℕ) → Node
  FetchAt : (name : List ℕ) (offset : ℕ) (paren : ℕ) → Node
  Deposit : (first : ℕ) (second : ℕ) (offset : ℕ) → Node
  Test : (offset : ℕ) → Node
  Or : Node
  If : Node
  Then : Node
  Else : Node
  Fi : Node
  While : Node
  Loop : Node
  Do : Node
  Until : Node
  Done : Node
  First : (name : List ℕ) (offset : ℕ) (for : ℕ) → Node
  Step : (for : ℕ) → Node
  One : Node
  For : (name : List ℕ) (offset : ℕ) (for : ℕ) → Node
  Next : (name : List ℕ) → Node
  Drop : Node
  Case : (offset : ℕ) → Node
  Arm : Node
  Out : Node
  Esac : Node

-- What a node of the code says.
abbrev pub node_of : CodeNode → Node
node_of (code_node.Simple name value_type offset) = Simple (name_of name) value_type offset
node_of (code_node.Array name value_type low high offset bound) = Array (name_of name) value_type low high offset bound
node_of (code_node.Number value value_type) = Number value value_type
node_of (code_node.Load name offset) = Load (name_of name) offset
node_of (code_node.Index name offset paren) = Index (name_of name) offset paren
node_of (code_node.Binary operator offset) = Binary operator offset
node_of (code_node.Negate offset) = Negate offset
node_of (code_node.Lnot offset) = Lnot offset
node_of (code_node.Convert value_type) = Convert value_type
node_of (code_node.Field first second offset) = Field first second offset
node_of (code_node.Shift shift count offset) = Shift shift count offset
node_of (code_node.Store name offset becomes) = Store (name_of name) offset becomes
node_of (code_node.Checked name offset paren) = Checked (name_of name) offset paren
node_of (code_node.StoreAt name offset becomes) = StoreAt (name_of name) offset becomes
node_of (code_node.Fetch name offset) = Fetch (name_of name) offset
node_of (code_node.FetchAt name offset paren) = FetchAt (name_of name) offset paren
node_of (code_node.Deposit first second offset) = Deposit first second offset
node_of (code_node.Test offset) = Test offset
node_of code_node.Or = Or
node_of code_node.If = If
node_of code_node.Then = Then
node_of code_node.Else = Else
node_of code_node.Fi = Fi
node_of code_node.While = While
node_of code_node.Loop = Loop
node_of code_node.Do = Do
node_of code_node.Until = Until
node_of code_node.Done = Done
node_of (code_node.First name offset for) = First (name_of name) offset for
node_of (code_node.Step for) = Step for
node_of code_node.One = One
node_of (code_node.For name offset for) = For (name_of name) offset for
node_of (code_node.Next name) = Next (name_of name)
node_of code_node.Drop = Drop
node_of (code_node.Case offset) = Case offset
node_of code_node.Arm = Arm
node_of code_node.Out = Out
node_of code_node.Esac = Esac

-- What a list of nodes says.
unfoldable pub node_list : List CodeNode → List Node
node_list ns = map node_of ns
