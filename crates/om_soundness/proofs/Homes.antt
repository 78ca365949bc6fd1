-- A frame that begins has a home for each slot.
use Rattle.std.proofs.Common.{◌≡◌, refl, sym, ap, subst, ℕ, zero, suc, arith, List, [], ◌∷◌, Option, None, Some}
use Rattle.std.specs.Prelude.{All, IsSomeAnd, slice_get, unwrap_or}
use Rattle.om_code.specs.declared.raw.Body.{Body}
use Rattle.om_code.specs.declared.raw.Raw.{Raw}
use Rattle.om_code.specs.declared.raw.Slot.{Slot}
use Rattle.om_code.specs.declared.raw.Source.{Source}
use Rattle.om_code.specs.declared.raw.Source.TheVariants as source
use Rattle.om_foot.specs.declared.object.Obj.TheVariants as obj
use Rattle.om_state.specs.declared.control.Context.{Context}
use Rattle.om_state.specs.declared.control.Control as controls
use Rattle.om_state.specs.declared.control.Control.TheVariants.{Running}
use Rattle.om_state.specs.State.{State}
use Rattle.om_state.specs.Values.{control_in}
use Rattle.om_code.specs.Places.{slots_of, no_body}
use Rattle.om_code.specs.Validity.{FitsOuter, CanBegin, IsKnownBody}
use Rattle.om_code.specs.Ways.{starts}
use Rattle.om_state.specs.declared.control.Home.{Home}
use Rattle.om_state.specs.declared.control.Home.TheVariants as home
use Rattle.om_state.specs.declared.control.Frame.{Frame}
use Rattle.om_team_serial.specs.Objects.{home_at, home_from, home_for, homes_for}
use Rattle.om_team_serial.specs.Sites.{body_of}
use Rattle.om_soundness.specs.Standing.{Owned, FitsHome, FitHomes, IsStandingFrame}

-- the own slots of the frame that runs in a context have their cells
abbrev pub HasOwn : Owned → Context → List Slot → Type 0
HasOwn owned context slots =
    (number : ℕ) (slot : Slot) → slice_get slots number ≡ Some slot → slot.source ≡ source.Own
    → owned context.task context.frame.ordinal number slot.cells

-- so it is for each worker that runs
abbrev pub WorkerHasOwn : Raw → Owned → controls.Control → Type 0
WorkerHasOwn program owned (Running stack) = HasOwn owned stack.top (slots_of program stack.top.frame.body)
WorkerHasOwn program owned _ = Unit {0}

abbrev pub WorkersHaveOwn : Raw → Owned → State → Type 0
WorkersHaveOwn program owned s = (worker : ℕ) → WorkerHasOwn program owned (control_in (s (obj.Control worker)))

-- the home of a slot that is found
home_found : (owned : Owned) (slots : List Slot) (homes : List Home) (n : ℕ) (slot : Slot)
    → FitHomes owned slots homes → slice_get slots n ≡ Some slot
    → FitsHome owned slot.cells slot.source (home_at homes n)
home_found owned [] [] n slot h e = cc
home_found owned [] (x ∷ homes) n slot h e = absurd h
home_found owned (x ∷ slots) [] n slot h e = absurd h
home_found owned (x ∷ slots) (y ∷ homes) zero slot h e =
    let same : x ≡ slot = cc in subst (λ (z : Slot). FitsHome owned z.cells z.source y) same h.0
home_found owned (x ∷ slots) (y ∷ homes) (suc n) slot h e = home_found owned slots homes n slot h.1 e

-- slots of a frame from which another one can take its outer ones: each own one has its cells, and each its home
pub record AreAround (owned : Owned) (task : List ℕ) (frame : ℕ) (outer : List Slot)
    (homes : List Home) : Type 0 where
  pub own : (n : ℕ) (slot : Slot) → slice_get outer n ≡ Some slot → slot.source ≡ source.Own
      → owned task frame n slot.cells
  pub fits : (n : ℕ) (slot : Slot) → slice_get outer n ≡ Some slot
      → FitsHome owned slot.cells slot.source (home_at homes n)

-- no slots
pub around_none : (owned : Owned) (task : List ℕ) (frame : ℕ) (homes : List Home)
    → AreAround owned task frame [] homes
around_none owned task frame homes = record { own = λ n slot e own. cc; fits = λ n slot e. cc }

-- the slots of a frame that stands
pub around : (owned : Owned) (task : List ℕ) (frame : ℕ) (slots : List Slot) (homes : List Home)
    → ((n : ℕ) (slot : Slot) → slice_get slots n ≡ Some slot → slot.source ≡ source.Own
    → owned task frame n slot.cells) → FitHomes owned slots homes → AreAround owned task frame slots homes
around owned task frame slots homes own h =
    record { own = own; fits = λ n slot e. home_found owned slots homes n slot h e }

from_home : (owned : Owned) (task : List ℕ) (frame n cells outer : ℕ) (s : Source) (h : Home) → outer ≡ cells
    → FitsHome owned outer s h → (s ≡ source.Own → owned task frame n outer)
    → FitsHome owned cells (source.Outer n) (home_from task frame n h)
from_home owned task frame n cells outer source.Own home.Own e fits own = subst (owned task frame n) e (own refl)
from_home owned task frame n cells outer source.Own (home.Elsewhere t f k) e fits own = absurd fits
from_home owned task frame n cells outer (source.Outer m) home.Own e fits own = absurd fits
from_home owned task frame n cells outer (source.Outer m) (home.Elsewhere t f k) e fits own =
    subst (owned t f k) e fits

outer_home : (owned : Owned) (around : List Slot) (homes : List Home) (task : List ℕ) (frame n cells : ℕ)
    (o : Option Slot) → AreAround owned task frame around homes → slice_get around n ≡ o
    → IsSomeAnd o (λ slot. slot.cells ≡ cells)
    → FitsHome owned cells (source.Outer n) (home_from task frame n (home_at homes n))
outer_home owned around homes task frame n cells None a e fits = absurd fits
outer_home owned around homes task frame n cells (Some slot) a e fits =
    from_home owned task frame n cells slot.cells slot.source (home_at homes n) fits (a.fits n slot e)
    (a.own n slot e)

begun_home : (owned : Owned) (around : List Slot) (homes : List Home) (task : List ℕ) (frame cells : ℕ) (s : Source)
    → AreAround owned task frame around homes → FitsOuter around cells s
    → FitsHome owned cells s (home_for task frame homes s)
begun_home owned around homes task frame cells source.Own a fits = tt
begun_home owned around homes task frame cells (source.Outer n) a fits =
    outer_home owned around homes task frame n cells (slice_get around n) a refl fits

begun_homes : (owned : Owned) (around : List Slot) (homes : List Home) (task : List ℕ) (frame : ℕ) (slots : List Slot)
    → AreAround owned task frame around homes → All (λ slot. FitsOuter around slot.cells slot.source) slots
    → FitHomes owned slots (homes_for task frame homes slots)
begun_homes owned around homes task frame [] a fits = tt
begun_homes owned around homes task frame (slot ∷ slots) a fits = (
  begun_home owned around homes task frame slot.cells slot.source a (fits 0 slot (omega arith)),
  begun_homes owned around homes task frame slots a (λ k d lt. fits (suc k) d (omega (arith, lt))),
)

-- a frame that begins on a body with the homes from around it
abbrev pub begun_frame : Raw → List Home → List ℕ → ℕ → ℕ → ℕ → Frame
begun_frame program homes task frame number ordinal =
    record {
      body = number;
      next = 0;
      ordinal = ordinal;
      operands = [];
      homes = homes_for task frame homes
          (body_of program number).slots;
    }

begun_stands : (program : Raw) (owned : Owned) (around : List Slot) (homes : List Home) (task : List ℕ)
    (frame number values ordinal : ℕ) (o : Option Body) → AreAround owned task frame around homes
    → slice_get program.bodies number ≡ o → IsSomeAnd o (λ b. CanBegin around values b)
    → IsStandingFrame program owned (begun_frame program homes task frame number ordinal)
begun_stands program owned around homes task frame number values ordinal None a e fits = absurd fits
begun_stands program owned around homes task frame number values ordinal (Some body) a e fits =
    let same : body_of program number ≡ body =
    ap (λ o. unwrap_or o no_body) e in
    record {
      body = body;
      found = e;
      way = starts;
      homes =
          subst (λ (b : Body). FitHomes owned body.slots (homes_for task frame homes b.slots)) (sym same)
          (begun_homes owned around homes task frame body.slots a fits.fits);
    }

pub begins : (program : Raw) (owned : Owned) (around : List Slot) (homes : List Home) (task : List ℕ)
    (frame number values ordinal : ℕ) → AreAround owned task frame around homes
    → IsKnownBody program.bodies around number values
    → IsStandingFrame program owned (begun_frame program homes task frame number ordinal)
begins program owned around homes task frame number values ordinal a fits =
    begun_stands program owned around homes task frame number values ordinal
    (slice_get program.bodies number) a refl fits
