-- A model's own lines as text: the mesh line, the search line and the flow lines.
use Rattle.std.specs.Prelude.{List, [], ◌∷◌, ◌++◌, ℕ}
use Rattle.model.specs.declared.flows.Mesh.{Mesh}
use Rattle.words.specs.Bytes.{bytes}
use Rattle.words.specs.Fields.{field, ended}

-- fields, one after the other
unfoldable pub fields : List ℕ → List ℕ
fields [] = []
fields (n ∷ numbers) = field n ++ fields numbers

-- a line: its word, its numbers, a line feed
unfoldable pub line_of : List ℕ → List ℕ → List ℕ
line_of word numbers = word ++ fields numbers ++ ended

-- the flow lines, of flows that are each a list of numbers
unfoldable pub flow_text : List (List ℕ) → List ℕ
flow_text [] = []
flow_text (flow ∷ flows) = line_of (bytes "flow") flow ++ flow_text flows

-- the model's lines
unfoldable pub model_text : Mesh → ℕ → ℕ → List (List ℕ) → List ℕ
model_text mesh pruning threshold flows =
    line_of (bytes "mesh") (mesh.columns ∷ mesh.rows ∷ mesh.r ∷ mesh.flit ∷ [])
    ++ (line_of (bytes "search") (pruning ∷ threshold ∷ []) ++ flow_text flows)

-- the numbers of the flows, one flow after the other
unfoldable pub all_of : List (List ℕ) → List ℕ
all_of [] = []
all_of (flow ∷ flows) = flow ++ all_of flows
