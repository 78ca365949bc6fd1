-- The words of objects tell these apart.
use Rattle.std.proofs.Common.{refl}
use Rattle.om_foot.specs.declared.object.Obj.TheVariants as object
use Rattle.lab_explore_words.specs.Laws.{TellApart}
use Rattle.lab_explore_words.specs.Lists.{number_words, name_words}
use Rattle.lab_explore_words.specs.Objects.{object_words}
use Rattle.lab_explore_words.proofs.NumbersApart.{behind, heads, number_apart, cut, name_apart}

pub object_apart : TellApart object_words
object_apart (object.Control a) (object.Control b) x y h =
    let p = number_apart a b x y (behind _ _ _ _ h) in ((λ i. object.Control (p.0 i)), p.1)
object_apart (object.Cell t f s k) (object.Cell u g r l) x y h =
    let p0 = cut name_words name_apart t u _ _ x y (behind _ _ _ _ h) in
    let p1 = cut number_words number_apart f g _ _ x y p0.1 in
    let p2 = cut number_words number_apart s r _ _ x y p1.1 in
    let p3 = number_apart k l x y p2.1 in
    ((λ i. object.Cell (p0.0 i) (p1.0 i) (p2.0 i) (p3.0 i)), p3.1)
object_apart (object.Global v k) (object.Global w l) x y h =
    let p = cut number_words number_apart v w _ _ x y (behind _ _ _ _ h) in
    let q = number_apart k l x y p.1 in
    ((λ i. object.Global (p.0 i) (q.0 i)), q.1)
object_apart (object.Task a) (object.Task b) x y h =
    let p = name_apart a b x y (behind _ _ _ _ h) in ((λ i. object.Task (p.0 i)), p.1)
object_apart (object.Kids a) (object.Kids b) x y h =
    let p = name_apart a b x y (behind _ _ _ _ h) in ((λ i. object.Kids (p.0 i)), p.1)
object_apart (object.Pending m f) (object.Pending n g) x y h =
    let p = cut name_words name_apart m n _ _ x y (behind _ _ _ _ h) in
    let q = number_apart f g x y p.1 in
    ((λ i. object.Pending (p.0 i) (q.0 i)), q.1)
object_apart (object.Arrived m f) (object.Arrived n g) x y h =
    let p = cut name_words name_apart m n _ _ x y (behind _ _ _ _ h) in
    let q = number_apart f g x y p.1 in
    ((λ i. object.Arrived (p.0 i) (q.0 i)), q.1)
object_apart (object.Work m f) (object.Work n g) x y h =
    let p = cut name_words name_apart m n _ _ x y (behind _ _ _ _ h) in
    let q = number_apart f g x y p.1 in
    ((λ i. object.Work (p.0 i) (q.0 i)), q.1)
object_apart (object.Lock a) (object.Lock b) x y h =
    let p = number_apart a b x y (behind _ _ _ _ h) in ((λ i. object.Lock (p.0 i)), p.1)
object_apart (object.Group a) (object.Group b) x y h =
    let p = name_apart a b x y (behind _ _ _ _ h) in ((λ i. object.Group (p.0 i)), p.1)
object_apart object.Output object.Output x y h = (refl, behind _ _ _ _ h)
object_apart (object.Events a) (object.Events b) x y h =
    let p = number_apart a b x y (behind _ _ _ _ h) in ((λ i. object.Events (p.0 i)), p.1)
object_apart _ _ x y h = absurd (heads _ _ _ _ h refl)
