-- What is told of the jobs of two parts, or of a part and one more job, is told of the whole.
use Rattle.std.proofs.Common.{List, [], ◌∷◌, ◌++◌}
use Rattle.std.specs.List.{AllZip}

pub AllZip-append : {X Y : Type 0} (R : X → Y → Type 0) (xs ys : List X) (us vs : List Y) → AllZip R xs us
    → AllZip R ys vs → AllZip R (xs ++ ys) (us ++ vs)
AllZip-append R [] ys [] bs front back = back
AllZip-append R [] ys (a ∷ more) bs front back = absurd front
AllZip-append R (x ∷ xs) ys [] bs front back = absurd front
AllZip-append R (x ∷ xs) ys (a ∷ more) bs front back = (front.0, AllZip-append R xs ys more bs front.1 back)
