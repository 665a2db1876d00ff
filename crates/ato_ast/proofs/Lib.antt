pub mod ExprKindLaws
