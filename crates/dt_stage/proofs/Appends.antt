-- Lists of nodes, and what they stand for.
use Rattle.std.proofs.Common.{◌≡◌, List, [], ◌∷◌, ◌++◌, map, refl, ap, ◌∙◌, append_assoc}
use Rattle.dt_model.specs.declared.model.Node.{Node}
use Rattle.dt_model.specs.ModelData.{NodeData, node_of}

pub five_nodes : (l : List Node) (a b c d e : Node) (x y z u v : NodeData) → l ≡ a ∷ b ∷ c ∷ d ∷ e ∷ [] → node_of a ≡ x → node_of b ≡ y → node_of c ≡ z → node_of d ≡ u → node_of e ≡ v → map node_of l ≡ x ∷ y ∷ z ∷ u ∷ v ∷ []
five_nodes l a b c d e x y z u v h p q r s t =
    ap (map node_of) h ∙ ap (λ k. k ∷ node_of b ∷ node_of c ∷ node_of d ∷ node_of e ∷ []) p ∙ ap (λ k. x ∷ k ∷ node_of c ∷ node_of d ∷ node_of e ∷ []) q
    ∙ ap (λ k. x ∷ y ∷ k ∷ node_of d ∷ node_of e ∷ []) r ∙ ap (λ k. x ∷ y ∷ z ∷ k ∷ node_of e ∷ []) s ∙ ap (λ k. x ∷ y ∷ z ∷ u ∷ k ∷ []) t

pub map_append : (xs ys : List Node) → map node_of (xs ++ ys) ≡ map node_of xs ++ map node_of ys
map_append [] ys = refl
map_append (x ∷ xs) ys = ap (λ l. node_of x ∷ l) (map_append xs ys)

pub four_nodes : (l : List Node) (a b c d : Node) (x y z u : NodeData) → l ≡ a ∷ b ∷ c ∷ d ∷ [] → node_of a ≡ x → node_of b ≡ y → node_of c ≡ z → node_of d ≡ u → map node_of l ≡ x ∷ y ∷ z ∷ u ∷ []
four_nodes l a b c d x y z u h p q r s =
    ap (map node_of) h ∙ ap (λ k. k ∷ node_of b ∷ node_of c ∷ node_of d ∷ []) p ∙ ap (λ k. x ∷ k ∷ node_of c ∷ node_of d ∷ []) q ∙ ap (λ k. x ∷ y ∷ k ∷ node_of d ∷ []) r ∙ ap (λ k. x ∷ y ∷ z ∷ k ∷ []) s

pub three_nodes : (l : List Node) (a b c : Node) (x y z : NodeData) → l ≡ a ∷ b ∷ c ∷ [] → node_of a ≡ x → node_of b ≡ y → node_of c ≡ z → map node_of l ≡ x ∷ y ∷ z ∷ []
three_nodes l a b c x y z h p q r = ap (map node_of) h ∙ ap (λ k. k ∷ node_of b ∷ node_of c ∷ []) p ∙ ap (λ k. x ∷ k ∷ node_of c ∷ []) q ∙ ap (λ k. x ∷ y ∷ k ∷ []) r

pub two_nodes : (l : List Node) (a b : Node) (x y : NodeData) → l ≡ a ∷ b ∷ [] → node_of a ≡ x → node_of b ≡ y → map node_of l ≡ x ∷ y ∷ []
two_nodes l a b x y h p q = ap (map node_of) h ∙ ap (λ k. k ∷ node_of b ∷ []) p ∙ ap (λ k. x ∷ k ∷ []) q

-- the nodes that begin with one and end with one
pub around_nodes : (l m n : List Node) (first last : Node) (u : List NodeData) → l ≡ first ∷ [] → map node_of m ≡ map node_of l ++ u → n ≡ m ++ last ∷ [] → map node_of n ≡ node_of first ∷ (u ++ node_of last ∷ [])
around_nodes l m n first last u h p q =
    ap (map node_of) q ∙ map_append m (last ∷ []) ∙ ap (λ (k : List NodeData). k ++ node_of last ∷ []) (p ∙ ap (λ (k : List Node). map node_of k ++ u) h)

-- three parts after one another, each of two lists
pub three_parts : (f x g y h z a b c m n : List NodeData) → a ≡ f ++ x → b ≡ g ++ y → c ≡ h ++ z → m ≡ a ++ b → n ≡ m ++ c → n ≡ f ++ (x ++ (g ++ (y ++ (h ++ z))))
three_parts f x g y h z a b c m n p q r s t =
    t ∙ ap (λ (l : List NodeData). l ++ c) s ∙ ap (λ (l : List NodeData). (l ++ b) ++ c) p ∙ ap (λ (l : List NodeData). ((f ++ x) ++ l) ++ c) q ∙ ap (λ (l : List NodeData). ((f ++ x) ++ (g ++ y)) ++ l) r
    ∙ append_assoc (f ++ x) (g ++ y) (h ++ z) ∙ append_assoc f x ((g ++ y) ++ (h ++ z)) ∙ ap (λ (l : List NodeData). f ++ (x ++ l)) (append_assoc g y (h ++ z))

pub five_lists : (a b c d e n1 n2 n3 n4 x y z u v : List NodeData) → n1 ≡ a ++ b → n2 ≡ n1 ++ c → n3 ≡ n2 ++ d → n4 ≡ n3 ++ e → a ≡ x → b ≡ y → c ≡ z → d ≡ u → e ≡ v → n4 ≡ x ++ (y ++ (z ++ (u ++ v)))
five_lists a b c d e n1 n2 n3 n4 x y z u v p q r s f g h i j =
    s ∙ ap (λ (l : List NodeData). l ++ e) (r ∙ ap (λ (l : List NodeData). l ++ d) (q ∙ ap (λ (l : List NodeData). l ++ c) p))
    ∙ append_assoc ((a ++ b) ++ c) d e ∙ append_assoc (a ++ b) c (d ++ e) ∙ append_assoc a b (c ++ (d ++ e))
    ∙ ap (λ (l : List NodeData). l ++ (b ++ (c ++ (d ++ e)))) f ∙ ap (λ (l : List NodeData). x ++ (l ++ (c ++ (d ++ e)))) g ∙ ap (λ (l : List NodeData). x ++ (y ++ (l ++ (d ++ e)))) h
    ∙ ap (λ (l : List NodeData). x ++ (y ++ (z ++ (l ++ e)))) i ∙ ap (λ (l : List NodeData). x ++ (y ++ (z ++ (u ++ l)))) j
