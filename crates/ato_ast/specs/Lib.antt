pub mod ExprKinds
pub mod FileKinds
pub mod PathKinds
pub mod Places
pub mod StmtKinds
